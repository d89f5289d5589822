use Rattle.std.proofs.Common.{◌≡◌, drop}
use Rattle.verilog_tree.specs.Facts as fact
use Rattle.net_check.specs.Known as known
use Rattle.net_check.proofs.printing.note_placed_in.Given as goal

abbrev pub invariant-loop-module : goal.invariant-loop-module
invariant-loop-module l = fact.after known.after_placed_in l.placed (drop l.module-index l.modules) ≡ fact.after known.after_placed_in l.fn.placed l.modules
