pub mod ViewRuns
pub mod OrderedView
pub use Rattle.planned_block.proofs.Tables
