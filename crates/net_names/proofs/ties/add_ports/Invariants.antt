use Rattle.std.proofs.Common.{◌≡◌, ◌++◌, drop}
use Rattle.net_names.specs.Ties.{ties_of, port_ties}
use Rattle.net_names.proofs.ties.add_ports.Given as goal

abbrev pub invariant-loop-port : goal.invariant-loop-port
invariant-loop-port l =
    ties_of l.ties ++ port_ties l.connections l.instance (drop l.port-index l.ports) l.number
    ≡ ties_of l.initial.ties ++ port_ties l.connections l.instance l.ports l.first
