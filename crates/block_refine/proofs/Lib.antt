pub mod Steps
pub mod Words
pub mod RoutineStages
pub mod RoutineLaws
pub mod RoutineActs
