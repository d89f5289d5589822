pub mod Banks
pub mod Cores
pub mod Sites
pub use Rattle.law_cycle.specs.Built
pub use Rattle.core_places.specs.Placing
