pub mod Asking
pub mod Fields
pub mod Met
