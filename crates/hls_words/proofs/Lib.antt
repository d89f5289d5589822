pub mod LineLemmas
pub mod NumberLemmas
pub mod Ranges
mod Vectors
