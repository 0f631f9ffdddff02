pub mod Values
pub mod Integers
