pub mod NodeViews
pub mod Origins
pub mod UseLists
pub mod ScheduledLoops
pub mod SameSchedules
mod WorkedTurns
