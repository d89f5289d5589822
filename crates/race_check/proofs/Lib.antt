pub mod AddedReads
pub mod StepTouches
pub mod Least
pub mod FirstRace
