use Rattle.std.proofs.Common.{◌≡◌, map, take}
use Rattle.netlist.specs.NetlistOf.{place}
use Rattle.net_netlist.proofs.values.places_of.Given as goal

abbrev pub invariant-loop-name : goal.invariant-loop-name
invariant-loop-name l = l.places ≡ map (place l.signals) (take l.name-index l.names)
