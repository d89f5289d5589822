pub mod Effects
pub mod BankTable
pub mod MemoryName
pub mod BankStands
