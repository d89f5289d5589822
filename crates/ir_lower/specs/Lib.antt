pub mod Codes
pub mod Taken
pub mod Switching
