use Rattle.std.proofs.Common.{◌≡◌, ◌++◌, drop}
use Rattle.net_names.specs.Tables.{names_of}
use Rattle.net_names.specs.Names.{side_names}
use Rattle.net_names.proofs.names.add_ports.Given as goal

abbrev pub invariant-loop-port : goal.invariant-loop-port
invariant-loop-port l = names_of l.names ++ side_names l.inputs (drop l.port-index l.ports) ≡ names_of l.initial.names ++ side_names l.inputs l.ports
