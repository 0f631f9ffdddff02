pub mod Again
pub mod Weights
