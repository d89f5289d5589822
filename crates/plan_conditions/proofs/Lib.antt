pub mod RegisterOperands
pub mod Stages
pub use Rattle.plan_blocks.proofs.ViewRuns
