use Rattle.std.proofs.Common.{◌≡◌, length}
use Rattle.thread_semantics.specs.Work.{settled, Onward}
use Rattle.c_evaluation.specs.View.{work_of}
use Rattle.c_evaluation.specs.Opened.{going_of}
use Rattle.c_evaluation.proofs.work.settle.Given as goal

abbrev pub invariant-loop-item : goal.invariant-loop-item
invariant-loop-item l = settled Onward (work_of l.fn.work.items) ≡ settled (going_of l.going) (work_of l.work.items)

abbrev pub decreases-loop-item : goal.decreases-loop-item
decreases-loop-item l = length (work_of l.work.items)
