use Rattle.std.proofs.Common.{◌≡◌, ◌++◌, drop}
use Rattle.std.specs.List.{flat_map}
use Rattle.net_netlist.specs.Laid.{item_instance}
use Rattle.net_netlist.proofs.instances.instances.Given as goal

abbrev pub invariant-loop-item : goal.invariant-loop-item
invariant-loop-item l = l.instances ++ flat_map (item_instance l.kinds l.before l.signals) (drop l.item-index l.items) ≡ flat_map (item_instance l.kinds l.before l.signals) l.items
