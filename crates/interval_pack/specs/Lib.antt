pub mod LeftEdge
pub mod Packing
pub mod Order
pub mod FreeRows
pub mod Sparse
pub mod Chosen
