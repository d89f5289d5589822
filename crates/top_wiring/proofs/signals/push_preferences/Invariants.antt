use Rattle.std.proofs.Common.{◌≡◌, ◌++◌}
use Rattle.circuit.specs.Rows.{spread}
use Rattle.top_wiring.specs.Top.{preference}
use Rattle.top_wiring.proofs.signals.push_preferences.Given as goal

abbrev pub invariant-loop-number : goal.invariant-loop-number
invariant-loop-number l = l.signals ≡ l.initial.signals ++ spread preference 0 l.number
