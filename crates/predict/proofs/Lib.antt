pub mod Toggling
pub mod Converting
pub mod Adding
pub mod Room
