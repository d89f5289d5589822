pub mod Rows
pub mod Bank
pub mod Machine
