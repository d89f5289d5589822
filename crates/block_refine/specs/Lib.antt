pub mod Threads
pub mod Acts
pub mod Routines
pub mod RoutineActs
