pub mod Times
pub mod Ahead
pub mod Operations
pub mod States
pub mod StageBits
pub mod Chains
pub mod Leave
pub mod Wired
