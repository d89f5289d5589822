pub mod Solution
pub mod History
pub mod Relaxed
