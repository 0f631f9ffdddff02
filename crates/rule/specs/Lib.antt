pub mod Numbers
pub mod Configuration
pub mod Prediction
pub mod AnyOrder
pub mod Coding
pub mod Refusals
