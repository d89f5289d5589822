pub mod Residues
pub mod Typed
pub mod Resized
pub mod Shifts
pub mod Operators
