pub mod Answered
pub mod Initials
