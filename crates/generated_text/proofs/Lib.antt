mod Rows
pub mod Texts
