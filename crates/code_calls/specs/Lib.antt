pub mod Acts
pub mod Calling
