pub mod Types
pub mod Globals
pub mod Slots
pub mod Promise
pub mod Moves
pub mod Serving
pub use Rattle.plan_conditions.specs.Right
pub use Rattle.plan_conditions.specs.View
