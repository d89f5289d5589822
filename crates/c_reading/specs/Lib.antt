pub mod Tokens
pub mod Expressions
pub mod Statements
pub mod Declarations
pub mod Laws
