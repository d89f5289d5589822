pub mod Steps
pub mod LongerWalks
pub mod Ends
