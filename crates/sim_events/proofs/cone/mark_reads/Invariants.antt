use Rattle.sim_values.specs.Order.{reads}
use Rattle.sim_events.proofs.ConeMarks.{AreReadMarks}
use Rattle.sim_events.proofs.cone.mark_reads.Given as goal

abbrev pub invariant-loop-index : goal.invariant-loop-index
invariant-loop-index l = AreReadMarks (reads l.modules l.feed) l.initial.marks.items l.marks.items l.index
