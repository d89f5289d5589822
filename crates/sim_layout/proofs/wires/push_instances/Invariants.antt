use Rattle.std.proofs.Common.{◌≡◌, ◌++◌, drop}
use Rattle.sim_layout.specs.Wires.{all_instances}
use Rattle.sim_layout.proofs.wires.push_instances.Given as goal

abbrev pub invariant-loop-number : goal.invariant-loop-number
invariant-loop-number l =
    l.initial.wires.items ++ all_instances l.modules l.parts l.part 0 l.instances ≡ l.wires.items ++ all_instances l.modules l.parts l.part l.number (drop l.number l.instances)
