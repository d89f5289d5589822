pub mod WithinLimits
pub mod AboveLimits
pub mod Stages
pub mod Each
pub mod Only
