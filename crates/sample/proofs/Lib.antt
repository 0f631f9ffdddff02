pub mod Signs
pub mod Numbers
pub mod Sizes
