pub mod Outcome
pub mod View
pub mod Opened
