pub mod Grades
pub mod Names
pub mod Kinds
pub mod Sounds
