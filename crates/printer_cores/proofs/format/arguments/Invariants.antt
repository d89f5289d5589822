use Rattle.printer_cores.proofs.Sites.{IsSoFar}
use Rattle.printer_cores.proofs.format.arguments.Given as goal

abbrev pub invariant-loop-i : goal.invariant-loop-i
invariant-loop-i l = IsSoFar l.first l.parts l.i l.arguments l.place
