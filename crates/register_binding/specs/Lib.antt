pub mod Used
pub mod Registers
pub mod Steps
