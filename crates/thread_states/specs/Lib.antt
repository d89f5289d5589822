pub mod Actions
pub mod Acts
pub mod Cells
pub mod Control
pub mod Stages
pub mod Stores
pub mod Wired
