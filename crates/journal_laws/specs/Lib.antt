pub mod Journal
pub mod Steps
pub use Rattle.slot_sim.specs.Slots
