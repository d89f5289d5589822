-- Rounds over the constraints that keep nothing but the starts.
use Rattle.std.specs.Prelude.{◌≡◌, ℕ, ◌<◌, ◌≤◌, List, pos, ◌+ℤ◌, slice_index, slice_set}
use Rattle.schedule_sdc.specs.declared.constraint.Constraint.{Constraint}
use Rattle.schedule_sdc.specs.declared.relax.Lift.{Lift}
use Rattle.schedule_sdc.specs.declared.relax.Lift.TheVariants.{Kept, Raised, Far}
use Rattle.schedule_sdc.specs.Solution.{Meets, IsSolution}

-- no start is later than that of any solution
abbrev pub AreEarly : List Constraint → ℕ → List ℕ → Type 0
AreEarly list n starts = (t : ℕ → ℕ) → IsSolution list t → (i : ℕ) → i < n → slice_index starts i ≤ t i

-- the constraint raised the start of its place to what it wants
abbrev pub IsRise : Constraint → List ℕ → List ℕ → Type 0
IsRise c old new = (v : ℕ) × (new ≡ slice_set old c.to v) × (slice_index old c.to < v) × (pos (slice_index old c.from) +ℤ c.gap ≡ pos v)

abbrev pub IsLift : Constraint → List ℕ → List ℕ → Lift → Type 0
IsLift c old new Kept = (old ≡ new) × Meets (slice_index new) c
IsLift c old new Raised = IsRise c old new
IsLift c old new Far = old ≡ new

-- a round that raised nothing found every constraint met
abbrev pub IsRoundOf : List Constraint → List ℕ → Lift → Type 0
IsRoundOf list starts Kept = IsSolution list (slice_index starts)
IsRoundOf list starts Raised = Unit {0}
IsRoundOf list starts Far = Unit {0}
