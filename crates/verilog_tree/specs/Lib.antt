pub mod Spelling
pub mod Tokens
pub mod Grammar
pub mod Reads
pub mod Scope
pub mod Rules
pub mod Facts
pub mod WellFormed
