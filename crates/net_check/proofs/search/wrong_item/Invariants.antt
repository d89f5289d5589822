use Rattle.std.proofs.Common.{◌≡◌, drop}
use Rattle.verilog_tree.specs.Facts as fact
use Rattle.net_check.specs.Known as known
use Rattle.net_check.specs.Search as search_for
use Rattle.net_check.proofs.search.wrong_item.Given as goal

abbrev pub invariant-loop-at : goal.invariant-loop-at
invariant-loop-at l =
    (search_for.first_wrong (search_for.item_stands (known.facts_of l.interfaces known.unprinted l.all)) fact.after_item (known.facts_of l.interfaces l.printing l.before)
    (drop l.at l.items) l.at
    ≡ search_for.first_wrong (search_for.item_stands (known.facts_of l.interfaces known.unprinted l.all)) fact.after_item
    (known.facts_of l.interfaces l.fn.printing l.fn.before) l.items 0)
    × (fact.after fact.after_item (known.facts_of l.interfaces l.printing l.before) (drop l.at l.items)
    ≡ fact.after fact.after_item (known.facts_of l.interfaces l.fn.printing l.fn.before) l.items)
