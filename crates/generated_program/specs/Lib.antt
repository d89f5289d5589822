pub mod Worker
pub mod Main
pub mod Generated
