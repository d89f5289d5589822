pub mod Gives
pub mod Words
pub mod Numbers
pub mod Built
pub mod Added
pub use Rattle.operator_words.specs.Shown
pub use Rattle.circuit.specs.Modules
