pub mod Tables
pub mod Laws
pub mod Whole
pub mod Nets
pub mod Fits
pub use Rattle.core_family.specs.Family
