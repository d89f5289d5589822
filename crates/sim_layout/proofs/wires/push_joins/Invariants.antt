use Rattle.std.proofs.Common.{◌≡◌, ◌++◌, drop}
use Rattle.sim_layout.specs.Wires.{join_steps}
use Rattle.sim_layout.proofs.wires.push_joins.Given as goal

abbrev pub invariant-loop-signal : goal.invariant-loop-signal
invariant-loop-signal l =
    l.initial.wires.items ++ join_steps l.base l.inputs l.child 0 l.signals ≡ l.wires.items ++ join_steps l.base l.inputs l.child l.signal (drop l.signal l.signals)
