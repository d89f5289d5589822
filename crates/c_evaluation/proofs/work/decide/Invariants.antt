use Rattle.std.proofs.Common.{◌≡◌}
use Rattle.std.specs.VecDeque.{deque_len}
use Rattle.thread_semantics.specs.Work.{decided}
use Rattle.c_evaluation.specs.View.{work_of}
use Rattle.c_evaluation.proofs.work.decide.Given as goal

abbrev pub invariant-loop-item : goal.invariant-loop-item
invariant-loop-item l = decided l.fn.truth (work_of l.fn.work.items) ≡ decided l.value (work_of l.work.items)

abbrev pub decreases-loop-item : goal.decreases-loop-item
decreases-loop-item l = deque_len l.work
