use Rattle.std.proofs.Common.{◌≡◌, ◌+◌, length, drop}
use Rattle.net_names.specs.Names.{item_names}
use Rattle.net_names.proofs.kinds.first_output.Given as goal

abbrev pub invariant-loop-item : goal.invariant-loop-item
invariant-loop-item l = l.count + length (item_names (drop l.item-index l.items)) ≡ l.initial.count + length (item_names l.items)
