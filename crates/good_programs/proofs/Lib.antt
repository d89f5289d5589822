mod Explored
pub mod First
pub mod Threads
