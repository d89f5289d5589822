use Rattle.std.proofs.Common.{◌≡◌, ◌++◌}
use Rattle.top_wiring.specs.Top.{run}
use Rattle.top_wiring.proofs.inputs.push_run.Given as goal

abbrev pub invariant-loop-number : goal.invariant-loop-number
invariant-loop-number l = l.places ≡ l.initial.places ++ run l.first l.number
