pub mod Calls
pub mod WaitChains
pub mod OrderGrowth
pub mod PlacedInstances
pub mod Givens
pub mod LeadSearch
pub mod WordRanks
pub mod Something
