pub mod LaidOut
pub mod Portable
