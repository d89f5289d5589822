use Rattle.std.proofs.Common.{◌≡◌, ◌++◌}
use Rattle.circuit.specs.Rows.{spread}
use Rattle.top_wiring.specs.Top.{arbiter_instance}
use Rattle.top_wiring.proofs.places.Places.push_arbiters.Given as goal

abbrev pub invariant-loop-number : goal.invariant-loop-number
invariant-loop-number l = l.instances ≡ l.initial.instances ++ spread (arbiter_instance l.self.starts l.self.threads l.self.cores l.self.parts l.arbiter) 0 l.number
