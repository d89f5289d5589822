use Rattle.sim_events.specs.Events.{AreFlagged}
use Rattle.sim_events.proofs.Marks.{AreMarking}
use Rattle.sim_events.proofs.pending.mark.Given as goal

abbrev pub invariant-loop-place : goal.invariant-loop-place
invariant-loop-place l = record {
  marking : AreMarking l.fanout.steps.items l.from l.first l.initial.pending.steps.items l.pending.steps.items l.place;
  flagged : AreFlagged l.pending.steps.items l.pending.blocks.items;
}
