pub mod Rules
pub mod Sentences
pub mod Readers
pub mod Steps
