pub mod Answers
pub mod Inside
pub use Rattle.hls_compile.specs.Compiled
