use Rattle.std.proofs.Common.{◌≡◌, drop}
use Rattle.verilog_tree.specs.Facts as fact
use Rattle.net_check.specs.Known as known
use Rattle.net_check.proofs.facts.ModuleFacts.add_items.Given as goal

abbrev pub invariant-loop-item : goal.invariant-loop-item
invariant-loop-item l = fact.after (known.after_item l.interfaces) l.self (drop l.item-index l.items) ≡ fact.after (known.after_item l.interfaces) l.fn.self l.items
