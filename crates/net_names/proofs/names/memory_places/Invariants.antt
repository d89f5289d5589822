use Rattle.std.proofs.Common.{◌≡◌, ◌++◌, drop}
use Rattle.std.specs.List.{flat_map}
use Rattle.net_names.specs.Tables.{names_of}
use Rattle.net_names.specs.Names.{memory_name}
use Rattle.net_names.proofs.names.memory_places.Given as goal

abbrev pub invariant-loop-item : goal.invariant-loop-item
invariant-loop-item l = names_of l.names ++ flat_map memory_name (drop l.item-index l.items) ≡ flat_map memory_name l.items
