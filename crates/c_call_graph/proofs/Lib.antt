pub mod Marks
pub mod SearchResult
