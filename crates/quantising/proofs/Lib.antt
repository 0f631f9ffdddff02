pub mod Calling
mod Constants
mod Turns
mod Unsigned
mod Divisors
mod Choosing
mod Completing
mod Units
mod Losses
mod Sums
mod Quotients
pub mod Promises
pub mod Never
mod Early
