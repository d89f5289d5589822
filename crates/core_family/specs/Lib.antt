pub mod Family
pub mod Kinds
pub mod Laws
pub mod View
pub use Rattle.thread_id_cores.specs.ThreadIds
pub use Rattle.thread_id_cores.specs.Machine
pub use Rattle.thread_id_cores.specs.declared.thread_ids.Shape
