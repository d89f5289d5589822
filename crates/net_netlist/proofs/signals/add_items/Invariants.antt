use Rattle.std.proofs.Common.{◌≡◌, ◌++◌, drop}
use Rattle.std.specs.List.{flat_map}
use Rattle.net_netlist.specs.Laid.{item_signal}
use Rattle.net_netlist.proofs.signals.add_items.Given as goal

abbrev pub invariant-loop-item : goal.invariant-loop-item
invariant-loop-item l = l.signals ++ flat_map (item_signal l.tables) (drop l.item-index l.items) ≡ l.initial.signals ++ flat_map (item_signal l.tables) l.items
