use Rattle.std.proofs.Common.{◌≡◌, drop}
use Rattle.std.specs.List.{list_any}
use Rattle.verilog_tree.specs.Facts as fact
use Rattle.net_check.proofs.printing.any_item_prints.Given as goal

abbrev pub invariant-loop-item : goal.invariant-loop-item
invariant-loop-item l = list_any (fact.item_prints) l.items ≡ list_any (fact.item_prints) (drop l.item-index l.items)
