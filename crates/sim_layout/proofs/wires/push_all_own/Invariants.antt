use Rattle.std.proofs.Common.{◌≡◌, ◌++◌, drop}
use Rattle.sim_layout.specs.Wires.{own_steps}
use Rattle.sim_layout.proofs.wires.push_all_own.Given as goal

abbrev pub invariant-loop-signal : goal.invariant-loop-signal
invariant-loop-signal l = l.initial.wires.items ++ own_steps l.parts l.part 0 l.signals ≡ l.wires.items ++ own_steps l.parts l.part l.signal (drop l.signal l.signals)
