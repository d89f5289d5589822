pub mod Shown
pub use Rattle.block_ir.specs.Arithmetic
