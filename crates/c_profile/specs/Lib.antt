pub mod Stops
pub mod Answers
pub mod Laws
