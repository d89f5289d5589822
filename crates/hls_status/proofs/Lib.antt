pub use Rattle.c_profile.proofs.Stages
