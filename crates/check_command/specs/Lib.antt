pub mod Told
pub mod TurnList
pub mod RunTold
pub use Rattle.lock_discipline.specs.Calm
pub use Rattle.lock_discipline.specs.Discipline
pub use Rattle.run_check.specs.Verdict
