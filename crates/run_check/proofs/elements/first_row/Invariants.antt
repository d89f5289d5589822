use Rattle.run_check.specs.Objects.{IsFirstRow}
use Rattle.run_check.proofs.elements.first_row.Given as goal

abbrev pub invariant-loop : goal.invariant-loop
invariant-loop l = IsFirstRow l.row.items
