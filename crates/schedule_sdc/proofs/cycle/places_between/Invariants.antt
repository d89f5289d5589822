use Rattle.std.proofs.Common.{ℕ, ◌<◌, length, List}
use Rattle.schedule_sdc.specs.History.{IsBehind, IsHistory}
use Rattle.schedule_sdc.specs.declared.constraint.Constraint.{Constraint}
use Rattle.schedule_sdc.proofs.Back.{IsWalkBack}
use Rattle.schedule_sdc.proofs.cycle.places_between.Given as goal

abbrev pub invariant-loop-here : goal.invariant-loop-here
invariant-loop-here l = record {
  within : l.here < length l.steps;
  behind : (k : ℕ) × IsBehind l.steps k l.here l.ends.earlier;
  walk : (list : List Constraint) (n : ℕ) → IsHistory list n l.steps → IsWalkBack list l.steps l.walk.items l.here l.ends.later;
}

abbrev pub decreases-loop-here : goal.decreases-loop-here
decreases-loop-here l = l.here
