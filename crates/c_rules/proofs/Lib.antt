pub mod LevelLemmas
pub mod FormatLemmas
