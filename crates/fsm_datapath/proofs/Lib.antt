mod Acts
mod Cells
mod LeftStates
mod ActStates
pub mod BlockStates
mod Unasked
mod Targets
pub mod ServedCode
mod WaitStates
pub mod ModuleForm
mod SignalGrades
pub mod CheckedLeaf
pub mod VariableNames
mod ArrayMemories
mod RegisterStatements
pub mod ModuleStands
mod ToldByCores
mod Alike
pub mod SteadyModule
pub use Rattle.thread_layout.proofs.SpreadBanks
