pub mod SettledLeaf
pub mod Edges
pub mod Leaves
pub mod Example
mod Parts
