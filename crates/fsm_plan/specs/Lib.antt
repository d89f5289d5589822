pub mod Planned
pub mod Steps
pub mod Stages
pub mod Run
pub mod Law
pub mod Plans
pub mod Shares
