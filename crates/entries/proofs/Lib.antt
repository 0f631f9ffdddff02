pub mod Bytes
pub mod Lists
pub mod Turns
