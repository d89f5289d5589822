pub mod Tables
pub mod Format
pub mod Interfaces
