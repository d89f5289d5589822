pub mod Sight
pub mod Typing
pub mod Parts
pub mod Formats
pub mod Breaks
pub mod Laws
pub mod ThreadLaws
