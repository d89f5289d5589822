pub mod Bytes
pub mod Ids
pub mod Injective
pub mod Lines
pub mod Recovered
