pub mod ActLinks
mod Between
pub mod Blocks
mod LeftStates
pub mod StateLinks
mod RestLinks
pub mod StageByStage
pub mod StateStores
mod ControlWires
mod Taken
