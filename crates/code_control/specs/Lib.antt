pub mod Branching
pub mod Deciding
