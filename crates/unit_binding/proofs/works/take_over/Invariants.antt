use Rattle.unit_binding.specs.Works.{IsTakenOver}
use Rattle.unit_binding.proofs.works.take_over.Given as goal

abbrev pub invariant-loop-i : goal.invariant-loop-i
invariant-loop-i l = IsTakenOver l.nodes l.kind l.row l.i l.fn.unit.items l.unit.items
