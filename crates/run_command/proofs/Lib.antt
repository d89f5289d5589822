pub mod CycleCount
pub mod Bad
