pub mod Counts
pub mod Shapes
pub mod Partition
