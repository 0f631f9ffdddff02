pub mod Words
pub mod Signed
pub mod Places
