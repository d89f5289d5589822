pub mod Joined
pub mod Maximal
pub mod Kept
pub mod Used
pub mod Steps
pub mod Dropping
pub mod Counting
