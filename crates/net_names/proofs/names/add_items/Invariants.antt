use Rattle.std.proofs.Common.{◌≡◌, ◌++◌, drop}
use Rattle.net_names.specs.Tables.{names_of}
use Rattle.net_names.specs.Names.{item_names}
use Rattle.net_names.proofs.names.add_items.Given as goal

abbrev pub invariant-loop-item : goal.invariant-loop-item
invariant-loop-item l = names_of l.names ++ item_names (drop l.item-index l.items) ≡ names_of l.initial.names ++ item_names l.items
