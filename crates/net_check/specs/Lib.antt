pub mod Breaks
pub mod Search
pub mod Instances
pub mod Known
pub mod Checks
