pub mod Right
pub use Rattle.plan_blocks.specs.View
pub use Rattle.plan_blocks.specs.Advance
pub use Rattle.plan_blocks.specs.Block
pub use Rattle.plan_blocks.specs.Memory
pub use Rattle.plan_blocks.specs.Plan
pub use Rattle.plan_blocks.specs.Slot
