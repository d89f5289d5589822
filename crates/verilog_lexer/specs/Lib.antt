pub mod Runs
pub mod Lexed
