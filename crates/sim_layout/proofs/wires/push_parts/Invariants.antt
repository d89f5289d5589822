use Rattle.std.proofs.Common.{◌≡◌, ◌++◌, drop}
use Rattle.sim_layout.specs.Wires.{all_steps}
use Rattle.sim_layout.proofs.wires.push_parts.Given as goal

abbrev pub invariant-loop-part : goal.invariant-loop-part
invariant-loop-part l = l.initial.wires.items ++ all_steps l.modules l.parts l.parts ≡ l.wires.items ++ all_steps l.modules l.parts (drop l.part-index l.parts)
