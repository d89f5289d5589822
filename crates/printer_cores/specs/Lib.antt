pub mod Format
pub mod Rows
pub mod Printer
pub mod Machine
