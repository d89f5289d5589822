use Rattle.std.proofs.Common.{◌≡◌, ◌+◌, ◌++◌}
use Rattle.std.specs.Prelude.{slice_index}
use Rattle.top_parts.specs.Parts.{flat_spread}
use Rattle.top_wiring.specs.Top.{run}
use Rattle.top_wiring.proofs.places.Places.push_group.Given as goal

abbrev pub invariant-loop-thread : goal.invariant-loop-thread
invariant-loop-thread l = l.inputs ≡ l.initial.inputs ++ flat_spread (λ i. run (slice_index l.self.starts i + l.first) l.count) 0 l.thread
