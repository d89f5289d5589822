pub mod CoresPlaced
pub mod Modules
pub mod CoresLaid
pub mod Scenes
pub use Rattle.core_tables.proofs.Small
