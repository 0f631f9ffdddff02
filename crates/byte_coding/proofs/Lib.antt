pub mod Leaving
pub mod Lengths
pub mod Coded
pub mod Chunks
pub mod Behind
pub mod Below
pub mod Entire
pub mod Whole
