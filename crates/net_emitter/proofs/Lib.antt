pub mod Tables
pub use Rattle.core_places.proofs.CoresPlaced
pub use Rattle.netlist_text.proofs.EachOfLists
pub use Rattle.netlist_text.proofs.ReservedWords
