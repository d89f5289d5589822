pub mod MutexWords
pub mod MutexTable
pub mod MutexStands
