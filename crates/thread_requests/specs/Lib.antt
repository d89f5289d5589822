pub mod Banks
pub mod Early
pub mod Outputs
pub mod Needing
