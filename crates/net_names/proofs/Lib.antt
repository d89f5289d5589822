pub mod FoundParts
pub mod Modules
pub mod NumberTables
