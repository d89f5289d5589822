pub mod Effect
pub mod Plan
pub mod Planned
