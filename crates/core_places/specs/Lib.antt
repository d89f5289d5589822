pub mod Placing
pub mod Laying
pub mod Kinds
pub use Rattle.core_tables.specs.Tables
