use Rattle.std.proofs.Common.{◌≡◌, ◌++◌, take}
use Rattle.top_parts.specs.Parts.{each_from}
use Rattle.top_parts.specs.Wires.{port_wire}
use Rattle.top_parts.proofs.wires.push_ports.Given as goal

abbrev pub invariant-loop-number : goal.invariant-loop-number
invariant-loop-number l = l.wires ≡ l.initial.wires ++ each_from (port_wire l.instance l.first) 0 (take l.number l.widths)
