pub mod LoneCycles
pub mod JournalGrowth
pub mod Judgements
pub mod Alike
pub mod MadeEntries
pub mod EntrySlots
pub mod Once
pub mod ClosedCycles
