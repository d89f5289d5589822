pub mod View
pub mod Alike
pub use Rattle.planned_block.specs.Block
pub use Rattle.planned_block.specs.Plan
pub use Rattle.planned_block.specs.Slot
pub use Rattle.planned_block.specs.Table
pub use Rattle.planned_block.specs.Advance
pub use Rattle.planned_block.specs.Memory
