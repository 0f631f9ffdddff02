pub mod Scale
pub mod Steps
pub mod Stages
pub mod Calls
pub mod Lent
