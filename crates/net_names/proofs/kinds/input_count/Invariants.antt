use Rattle.std.proofs.Common.{◌≡◌, ◌≤◌, ◌+◌, true, length, drop}
use Rattle.net_names.specs.Names.{side_names}
use Rattle.net_names.proofs.kinds.input_count.Given as goal

abbrev pub invariant-loop-port : goal.invariant-loop-port
invariant-loop-port l = (l.count ≤ l.port-index) × (l.count + length (side_names true (drop l.port-index l.ports)) ≡ length (side_names true l.ports))
