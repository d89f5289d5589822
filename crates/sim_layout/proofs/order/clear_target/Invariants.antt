use Rattle.std.proofs.Common.{◌≡◌, ◌<◌, ℕ, Some, slice_get}
use Rattle.sim_values.specs.declared.settle.Step.{Step}
use Rattle.sim_values.specs.Order.{IsMarked}
use Rattle.sim_layout.proofs.order.clear_target.Given as goal

abbrev pub invariant-loop-number : goal.invariant-loop-number
invariant-loop-number l = (k : ℕ) (s : Step) → k < l.number → slice_get l.wires k ≡ Some s → IsMarked l.marks s.target
