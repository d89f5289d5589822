pub mod Frames
pub mod Moved
pub mod Steps
