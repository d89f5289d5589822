use Rattle.std.proofs.Common.{◌≡◌, ◌<◌, ℕ, Some, slice_get}
use Rattle.std.specs.Prelude.{codes}
use Rattle.netlist.specs.declared.netlist.Signal.{Signal}
use Rattle.slot_sim.proofs.slot.need_number.Given as goal

abbrev pub invariant-loop-number : goal.invariant-loop-number
invariant-loop-number l = (x : ℕ) (s : Signal) → x < l.number → slice_get l.signals x ≡ Some s → s.name ≡ codes "need" → ⊥
