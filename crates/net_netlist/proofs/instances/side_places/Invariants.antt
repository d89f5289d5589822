use Rattle.std.proofs.Common.{◌≡◌, ◌++◌, drop}
use Rattle.std.specs.List.{flat_map}
use Rattle.net_netlist.specs.Laid.{port_place}
use Rattle.net_netlist.proofs.instances.side_places.Given as goal

abbrev pub invariant-loop-port : goal.invariant-loop-port
invariant-loop-port l =
    l.places ++ flat_map (port_place l.signals l.connections l.inputs) (drop l.port-index l.ports)
    ≡ flat_map (port_place l.signals l.connections l.inputs) l.ports
