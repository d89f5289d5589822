use Rattle.std.proofs.Common.{◌*◌}
use Rattle.sim_layout.specs.Running.{choice_of}
use Rattle.sim_events.specs.Events.{AreFlagged, IsSettling}
use Rattle.sim_events.proofs.pending.settle_again.Given as goal

abbrev pub invariant-loop-block : goal.invariant-loop-block
invariant-loop-block l = record {
  settling : IsSettling l.modules l.steps (choice_of l.choice) l.words l.starts l.fanout.starts.items l.fanout.steps.items l.initial.numbers (l.block * 16) l.numbers l.pending.steps.items;
  flagged : AreFlagged l.pending.steps.items l.pending.blocks.items;
}
