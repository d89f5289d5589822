pub mod Rows
pub mod Locals
pub mod Slots
