pub mod Tokens
pub mod Trees
pub mod Expressions
pub mod Statements
pub mod Declarations
