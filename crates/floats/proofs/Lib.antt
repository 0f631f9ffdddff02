mod IntegerParts
mod Signs
pub mod Shifts
pub mod Patterns
pub mod Unpacking
pub mod Exponents
pub mod Holding
