use Rattle.std.proofs.Common.{◌≡◌, ◌++◌, drop}
use Rattle.std.specs.List.{flat_map}
use Rattle.net_netlist.specs.Laid.{item_memory}
use Rattle.net_netlist.proofs.memories.memories.Given as goal

abbrev pub invariant-loop-item : goal.invariant-loop-item
invariant-loop-item l = l.memories ++ flat_map (item_memory l.initials) (drop l.item-index l.items) ≡ flat_map (item_memory l.initials) l.items
