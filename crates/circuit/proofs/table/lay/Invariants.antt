use Rattle.std.proofs.Common.{◌≡◌, take}
use Rattle.circuit.specs.Table.{place, laid_from}
use Rattle.circuit.proofs.table.lay.Given as goal

abbrev pub invariant-loop-i : goal.invariant-loop-i
invariant-loop-i l = l.signals ≡ laid_from l.threads (place l.threads l.rows) 0 (take l.i l.rows)
