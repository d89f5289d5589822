use Rattle.std.proofs.Common.{◌≡◌, ◌<◌, ℕ, Some, slice_get}
use Rattle.netlist.specs.declared.netlist.Signal.{Signal}
use Rattle.cycle_sim.specs.Opened.{IsDoneSignal}
use Rattle.cycle_sim.proofs.net.done_number.Given as goal

abbrev pub invariant-loop-number : goal.invariant-loop-number
invariant-loop-number l = (x : ℕ) (s : Signal) → x < l.number → slice_get l.signals x ≡ Some s → IsDoneSignal s → ⊥
