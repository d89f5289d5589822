pub mod FirstCandidate
pub mod ArbiterStands
pub mod Stateless
