pub mod Ranges
pub mod Conversions
