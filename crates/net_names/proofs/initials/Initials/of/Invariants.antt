use Rattle.std.proofs.Common.{◌≡◌, ◌++◌, drop}
use Rattle.std.specs.List.{flat_map}
use Rattle.netlist.specs.NetlistOf.{initial_constants}
use Rattle.net_names.specs.Found.{behind}
use Rattle.net_names.proofs.initials.Initials.of.Given as goal

abbrev pub invariant-loop-item : goal.invariant-loop-item
invariant-loop-item l = behind l.list ++ flat_map initial_constants (drop l.item-index l.items) ≡ flat_map initial_constants l.items
