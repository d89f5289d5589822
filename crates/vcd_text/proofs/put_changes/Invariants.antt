use Rattle.std.proofs.Common.{◌≡◌, ◌++◌}
use Rattle.vcd_text.specs.Dump.{joined, changed_at}
use Rattle.vcd_text.proofs.put_changes.Given as goal

abbrev pub invariant-loop-k : goal.invariant-loop-k
invariant-loop-k l = l.out ≡ l.fn.out ++ joined (changed_at l.widths l.before l.now) l.k
