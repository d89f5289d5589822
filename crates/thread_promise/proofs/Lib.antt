pub mod BankTotal
pub use Rattle.plan_conditions.proofs.RegisterOperands
pub use Rattle.plan_conditions.proofs.ViewRuns
pub use Rattle.operator_words.proofs.Typed
