use Rattle.std.proofs.Common.{◌≡◌, ◌≤◌, ◌<◌, ℕ, false}
use Rattle.std.specs.Prelude.{slice_index_or}
use Rattle.sim_events.proofs.pending.any_marked.Given as goal

abbrev pub invariant-loop-number : goal.invariant-loop-number
invariant-loop-number l = (k : ℕ) → l.first ≤ k → k < l.number → slice_index_or l.marks k false ≡ false
