use Rattle.std.proofs.Common.{◌≡◌, drop}
use Rattle.verilog_tree.specs.Facts as fact
use Rattle.net_check.specs.Known as known
use Rattle.net_check.proofs.printing.note_all_placed.Given as goal

abbrev pub invariant-loop-item : goal.invariant-loop-item
invariant-loop-item l = fact.after known.after_placed l.placed (drop l.item-index l.items) ≡ fact.after known.after_placed l.fn.placed l.items
