pub mod Events
pub mod Operations
pub mod Edges
pub mod Cones
