pub mod Encode
pub mod Decode
pub mod ByValue
pub mod Pieces
pub mod Table
