pub mod JournalFollowed
pub mod Verdicts
