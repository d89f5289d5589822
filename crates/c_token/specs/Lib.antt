pub mod Spelling
pub mod Constants
