pub mod NetlistOf
pub mod Laid
pub mod Sound
pub use Rattle.verilog_tree.specs.declared.tree.BinaryOperator
pub use Rattle.verilog_tree.specs.declared.tree.DivisionOperator
