pub mod Words
pub mod Operations
pub mod Acts
pub mod Code
