pub mod Runners
pub mod Counts
pub mod Awake
pub mod CoresStand
pub mod OthersRest
pub mod Fits
pub mod WhoBlocks
mod Scenes
pub mod ActByAct
pub mod Common
pub mod LockSteps
pub mod Creates
pub mod Anywhere
pub mod BarrierActs
pub mod BarrierWaits
pub mod Mutexes
pub mod Barriers
pub mod Joins
pub mod Finishes
pub mod Prints
pub mod Requests
pub use Rattle.block_refine.proofs.RoutineActs
pub use Rattle.block_refine.proofs.RoutineLaws
pub mod KeptTold
mod CoreScenes
