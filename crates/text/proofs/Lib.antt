pub mod Scans
pub mod Printed
