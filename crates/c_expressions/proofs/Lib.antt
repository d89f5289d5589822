pub mod BinaryForms
pub mod PlaceForms
pub mod SequenceLemmas
