use Rattle.std.proofs.Common.{◌≡◌, drop}
use Rattle.thread_semantics.specs.Work.{noted}
use Rattle.c_evaluation.specs.View.{work_of}
use Rattle.c_evaluation.proofs.work.noted.Given as goal

abbrev pub invariant-loop-k : goal.invariant-loop-k
invariant-loop-k l = noted l.truth (work_of l.work.items) ≡ noted l.value (work_of (drop l.k l.work.items))
