use Rattle.std.proofs.Common.{◌≡◌, drop}
use Rattle.std.specs.Prelude.{nat_le}
use Rattle.turns.specs.Turns.{most_steps, steps_of}
use Rattle.turns.proofs.are_few.Given as goal

abbrev pub invariant-loop-turn : goal.invariant-loop-turn
invariant-loop-turn l = nat_le (steps_of l.turns) most_steps ≡ nat_le (steps_of (drop l.turn-index l.turns)) l.left
