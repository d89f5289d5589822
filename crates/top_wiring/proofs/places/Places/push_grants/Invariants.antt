use Rattle.std.proofs.Common.{◌≡◌, ◌++◌}
use Rattle.circuit.specs.Rows.{spread}
use Rattle.top_wiring.specs.Top.{grant_places}
use Rattle.top_wiring.proofs.places.Places.push_grants.Given as goal

abbrev pub invariant-loop-core : goal.invariant-loop-core
invariant-loop-core l = l.inputs ≡ l.initial.inputs ++ spread (grant_places l.self.starts l.self.threads l.self.cores l.thread) 0 l.core
