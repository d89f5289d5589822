-- What is promised of the text of a generated program.
use Rattle.std.specs.Prelude.{◌≡◌, ℕ, ◌+◌, List}
use Rattle.c_program.specs.Tree.{Program}
use Rattle.c_program.specs.Weight.{thread_count}
use Rattle.c_accepted.specs.Profile.{IsAccepted}
use Rattle.thread_semantics.specs.Races.{IsGood}

-- the text is accepted, and its program is good and has so many threads beside main
abbrev pub IsAcceptedAsGood : ℕ → List ℕ → Type 0
IsAcceptedAsGood threads text = (P : Program) × (w : ℕ) × IsAccepted text P w × IsGood P × (thread_count P ≡ threads + 1)
