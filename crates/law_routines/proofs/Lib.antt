pub mod Routines
mod Scenes
pub mod Types
pub mod Chains
pub mod Whole
