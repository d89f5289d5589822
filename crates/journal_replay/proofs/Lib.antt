pub mod Entries
pub mod RedoneEntries
pub mod Replayed
