pub mod Configuration
