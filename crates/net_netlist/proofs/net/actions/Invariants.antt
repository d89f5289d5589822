use Rattle.std.proofs.Common.{◌≡◌, ◌++◌, drop}
use Rattle.std.specs.List.{flat_map}
use Rattle.netlist.specs.NetlistOf.{item_actions}
use Rattle.net_netlist.proofs.net.actions.Given as goal

abbrev pub invariant-loop-item : goal.invariant-loop-item
invariant-loop-item l = l.actions ++ flat_map (item_actions l.signals l.memories) (drop l.item-index l.items) ≡ flat_map (item_actions l.signals l.memories) l.items
