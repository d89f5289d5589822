pub mod Readings
pub mod Names
pub mod Ports
pub mod Cycles
pub mod Threads
pub mod Follows
pub use Rattle.hls_ints.specs.Residues
pub use Rattle.hls_ints.specs.Words
