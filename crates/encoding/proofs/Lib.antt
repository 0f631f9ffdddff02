pub mod Batches
pub mod Handing
pub mod Turns
