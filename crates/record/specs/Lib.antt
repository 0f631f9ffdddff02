pub mod Widths
pub mod Signed
pub mod Format
pub mod Reading
pub mod Writing
pub mod Records
