pub mod Residues
pub mod Types
pub mod Operators
pub mod Words
