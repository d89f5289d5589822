pub mod Effects
pub mod ThreadIdTable
pub mod ShownTable
pub mod RunnersKept
pub mod MemoryNames
pub mod ThreadIdsStand
pub mod Scenes
