pub mod Effects
pub mod WaitBits
pub mod BarrierTable
pub mod BarrierStands
pub mod Scenes
