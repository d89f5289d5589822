pub mod Written
pub use Rattle.core_places.specs.Placing
pub use Rattle.core_family.specs.declared.cores.Cores
pub use Rattle.netlist_text.specs.Portable
