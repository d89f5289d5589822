pub mod Rows
pub mod Arbiter
