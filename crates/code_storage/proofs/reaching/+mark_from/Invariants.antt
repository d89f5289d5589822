use Rattle.std.proofs.Common.{◌≡◌, ◌-◌, map, drop}
use Rattle.c_program.specs.Plain.{function_of}
use Rattle.code_storage.specs.Reaching.{mark_all, mark_from}
use Rattle.code_storage.proofs.reaching.+mark_from.Given as goal

abbrev pub decreases-mark_from : goal.decreases-mark_from
decreases-mark_from l = l.depth

abbrev pub invariant-loop-callee : goal.invariant-loop-callee
invariant-loop-callee l =
    mark_all (mark_from (map function_of l.functions) (l.depth - 1)) l.fn.marks l.callee-items
    ≡ mark_all (mark_from (map function_of l.functions) (l.depth - 1)) l.marks (drop l.callee-index l.callee-items)
