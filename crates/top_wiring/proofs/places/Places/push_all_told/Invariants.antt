use Rattle.std.proofs.Common.{◌≡◌, ◌++◌, take, length}
use Rattle.top_parts.specs.Parts.{flat_from}
use Rattle.top_wiring.specs.Top.{told_places}
use Rattle.top_parts.specs.declared.layout.Core.{Core}
use Rattle.top_wiring.proofs.places.Places.push_all_told.Given as goal

abbrev pub invariant-loop-number : goal.invariant-loop-number
invariant-loop-number l = l.inputs ≡ l.initial.inputs
    ++ flat_from (λ k (c : Core). told_places l.self.starts l.self.threads l.self.cores l.thread k (length c.told)) 0 (take l.number l.cores)
