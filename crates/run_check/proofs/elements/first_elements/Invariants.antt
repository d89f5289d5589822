use Rattle.run_check.proofs.FirstRows.{IsFirstRows}
use Rattle.run_check.proofs.elements.first_elements.Given as goal

abbrev pub invariant-loop-global : goal.invariant-loop-global
invariant-loop-global l = IsFirstRows l.rows.items
