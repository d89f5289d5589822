use Rattle.std.proofs.Common.{◌≡◌, drop}
use Rattle.std.specs.List.{list_any}
use Rattle.verilog_tree.specs.Facts as fact
use Rattle.std.specs.Prelude.{◌||◌}
use Rattle.net_check.proofs.printing.any_prints_below.Given as goal

abbrev pub invariant-loop-item : goal.invariant-loop-item
invariant-loop-item l =
    list_any (λ x. fact.item_prints x || fact.places_printer l.interfaces x) l.items
    ≡ list_any (λ x. fact.item_prints x || fact.places_printer l.interfaces x) (drop l.item-index l.items)
