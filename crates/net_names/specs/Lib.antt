pub mod Found
pub mod Kinds
pub mod Names
pub mod Tabled
pub mod Tables
pub mod Ties
