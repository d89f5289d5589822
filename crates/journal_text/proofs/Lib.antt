pub mod ReadNumbers
pub mod FieldCuts
pub mod Inside
pub mod JournalLines
