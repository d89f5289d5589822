use Rattle.code_merge.specs.Dropping as steps
use Rattle.code_merge.proofs.leading.none.Given as goal

abbrev pub invariant-loop-done : goal.invariant-loop-done
invariant-loop-done l = steps.AreUnset l.done l.none
