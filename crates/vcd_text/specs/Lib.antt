pub mod Dump
pub mod Recover
