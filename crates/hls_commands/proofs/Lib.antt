pub mod RefusalLemmas
pub mod RunLemmas
pub mod SimLemmas
pub mod CheckLemmas
pub mod GeneratedLemmas
pub mod OwedAnswers
