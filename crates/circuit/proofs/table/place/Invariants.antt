use Rattle.std.proofs.Common.{◌≡◌, ◌*◌, ◌^◌, ◌≤◌, take}
use Rattle.circuit.specs.Table.{rows_end}
use Rattle.circuit.proofs.table.place.Given as goal

abbrev pub invariant-loop-i : goal.invariant-loop-i
invariant-loop-i l = (l.at ≡ rows_end l.threads 0 (take l.i l.rows)) × (l.at ≤ 65 * 2 ^ 16 * l.i)
