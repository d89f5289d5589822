-- What is answered for a text, by what the text is.
use Rattle.std.specs.Prelude.{◌≡◌, ℕ, Result, Ok, Err}
use Rattle.c_program.specs.Tree.{Program}
use Rattle.c_program.specs.Plain.{program_of}
use Rattle.c_accepted.specs.declared.refusal.Refusal.{Refusal}
use Rattle.c_profile.specs.declared.text.Accepted.{Accepted}
use Rattle.c_profile.specs.declared.text.ProfileError.{ProfileError}
use Rattle.c_profile.specs.declared.text.ProfileError.TheVariants.{Refused, Memory}

-- this program with this weight, but for want of memory
abbrev pub AcceptsOnly : Program → ℕ → Result Accepted ProfileError → Type 0
AcceptsOnly P w (Ok a) = (program_of a.program ≡ P) × (a.weight ≡ w)
AcceptsOnly P w (Err (Refused r)) = ⊥
AcceptsOnly P w (Err Memory) = Unit {0}

-- this refusal, but for want of memory
abbrev pub RefusesOnly : Refusal → Result Accepted ProfileError → Type 0
RefusesOnly r (Ok a) = ⊥
RefusesOnly r (Err (Refused s)) = s ≡ r
RefusesOnly r (Err Memory) = Unit {0}
