pub mod TokenCounts
pub mod NoNets
pub mod TokenPlaces
pub mod PartPlaces
pub mod ReadClauses
pub mod Names
pub mod Wanted
pub mod LoopTurns
