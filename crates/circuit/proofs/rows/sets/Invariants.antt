use Rattle.std.proofs.Common.{◌≡◌}
use Rattle.circuit.specs.Rows.{spread, set_at}
use Rattle.circuit.proofs.rows.sets.Given as goal

abbrev pub invariant-loop-number : goal.invariant-loop-number
invariant-loop-number l = l.actions ≡ spread (set_at l.register l.source) 0 l.number
