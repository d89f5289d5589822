pub mod Delivery
pub mod Call
pub use Rattle.hls_words.specs.Line
