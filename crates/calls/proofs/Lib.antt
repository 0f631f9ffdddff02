pub mod Leaving
pub mod Undone
pub mod Ways
pub mod Pieces
pub mod Chains
pub mod Whole
pub mod Table
