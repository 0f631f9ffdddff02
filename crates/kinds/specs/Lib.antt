pub mod Widths
pub mod Answers
