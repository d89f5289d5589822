use Rattle.std.proofs.Common.{◌≡◌, drop}
use Rattle.std.specs.List.{list_any}
use Rattle.verilog_tree.specs.WellFormed as well
use Rattle.net_check.proofs.search.any_clocked.Given as goal

abbrev pub invariant-loop-item : goal.invariant-loop-item
invariant-loop-item l = list_any (well.is_clocked l.interfaces) l.items ≡ list_any (well.is_clocked l.interfaces) (drop l.item-index l.items)
