pub mod Actions
pub mod Laid
