pub mod Stepping
pub mod Walk
