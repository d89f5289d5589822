use Rattle.std.proofs.Common.{◌≡◌, ℕ, ◌<◌, ◌≤◌, slice_index}
use Rattle.std.specs.Prelude.{Some, slice_get}
use Rattle.sim_values.specs.Order.{reads}
use Rattle.sim_layout.proofs.suspects.highest.Given as goal

abbrev pub invariant-loop-index : goal.invariant-loop-index
invariant-loop-index l = (j y : ℕ) → j < l.index → slice_get (reads l.modules l.feed) j ≡ Some y → slice_index l.ranks y ≤ l.most
