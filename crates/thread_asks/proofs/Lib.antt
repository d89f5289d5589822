pub mod Asks
pub mod FieldValues
mod MeetingBarrier
pub mod Taken
