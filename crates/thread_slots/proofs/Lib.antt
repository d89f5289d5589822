mod FirstLinks
pub mod Between
pub mod Digits
pub mod BitLists
mod Heard
mod InputPorts
pub mod LaidRegisters
pub mod Linked
pub mod NextLink
pub mod RegisterNames
pub mod StageNumbers
pub mod PutStores
pub mod RequestLinks
pub mod StandingStores
pub mod Taken
pub mod SlotWires
