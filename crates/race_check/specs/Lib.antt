pub mod Access
pub mod Reads
pub mod Planned
pub mod Conflict
pub mod First
