pub mod Graphs
pub mod Reaching
