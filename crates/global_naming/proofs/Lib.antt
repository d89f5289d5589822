pub mod Amounts
pub mod Callees
pub mod Calls
pub mod Few
pub mod Marks
pub mod Named
mod Rows
pub mod Whole
