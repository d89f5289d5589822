pub mod Before
pub mod Faults
pub mod Answers
pub mod Top
pub mod Ports
