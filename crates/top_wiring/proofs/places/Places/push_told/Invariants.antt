use Rattle.std.proofs.Common.{◌≡◌, ◌++◌}
use Rattle.top_wiring.specs.Top.{told_places}
use Rattle.top_wiring.proofs.places.Places.push_told.Given as goal

abbrev pub invariant-loop-number : goal.invariant-loop-number
invariant-loop-number l = l.inputs ≡ l.initial.inputs ++ told_places l.self.starts l.self.threads l.self.cores l.thread l.core l.number
