pub mod Rows
pub mod Barrier
pub mod Machine
pub mod Laws
