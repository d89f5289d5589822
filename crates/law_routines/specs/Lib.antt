pub mod Plans
pub use Rattle.law_cycle.specs.Built
pub use Rattle.law_threads.specs.Surroundings
pub use Rattle.law_cycle.specs.Family
pub mod Planned
