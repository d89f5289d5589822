pub mod Lexemes
pub mod Meaning
pub mod Contexts
pub mod Texts
pub mod Finding
pub mod Stepping
