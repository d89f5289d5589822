use Rattle.std.proofs.Common.{◌≡◌, ℕ, ◌++◌, take, replicate}
use Rattle.std.specs.List.{flat_map}
use Rattle.top_parts.proofs.parts.core_outputs.Given as goal

abbrev pub invariant-loop-width : goal.invariant-loop-width
invariant-loop-width l = l.widths ≡ replicate l.threads 1 ++ flat_map (λ (w : ℕ). replicate l.threads w) (take l.width-index l.width-items)
