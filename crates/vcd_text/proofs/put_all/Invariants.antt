use Rattle.std.proofs.Common.{◌≡◌, ◌++◌}
use Rattle.vcd_text.specs.Dump.{joined, change_at}
use Rattle.vcd_text.proofs.put_all.Given as goal

abbrev pub invariant-loop-k : goal.invariant-loop-k
invariant-loop-k l = l.out ≡ l.fn.out ++ joined (change_at l.widths l.now) l.k
