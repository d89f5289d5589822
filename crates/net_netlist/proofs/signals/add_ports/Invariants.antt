use Rattle.std.proofs.Common.{◌≡◌, ◌++◌, drop}
use Rattle.std.specs.List.{flat_map}
use Rattle.net_netlist.specs.Laid.{port_signal}
use Rattle.net_netlist.proofs.signals.add_ports.Given as goal

abbrev pub invariant-loop-port : goal.invariant-loop-port
invariant-loop-port l = l.signals ++ flat_map (port_signal l.tables l.inputs) (drop l.port-index l.ports) ≡ l.initial.signals ++ flat_map (port_signal l.tables l.inputs) l.ports
