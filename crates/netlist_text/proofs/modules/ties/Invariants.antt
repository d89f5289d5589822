use Rattle.std.proofs.Common.{◌≡◌, ◌++◌, take}
use Rattle.netlist_text.specs.LaidOut as laid
use Rattle.netlist_text.proofs.modules.ties.Given as goal

abbrev pub invariant-loop-k : goal.invariant-loop-k
invariant-loop-k l = l.out ≡ l.fn.out ++ laid.with_places (laid.tie l.parent l.of) l.first (take l.k l.signals)
