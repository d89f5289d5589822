pub mod Arguments
pub mod Calls
pub use Rattle.c_expressions.specs.Cuts
pub use Rattle.c_expressions.specs.Expressions
pub use Rattle.c_expressions.specs.Sequences
pub use Rattle.c_expressions.specs.Targets
