pub mod Bytes
pub mod Lengths
pub mod Calls
pub mod Pieces
