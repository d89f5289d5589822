pub mod Globals
pub mod Printable
pub mod Mutexes
pub mod Cores
pub use Rattle.core_places.proofs.CoresPlaced
