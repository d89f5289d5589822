pub mod Places
pub mod Named
pub mod Digits
pub mod Listed
pub mod Elements
