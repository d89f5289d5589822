use Rattle.sim_layout.specs.Running.{IsSameNet}
use Rattle.journal_replay.proofs.RedoneEntries.{AreDone}
use Rattle.journal_replay.proofs.steps.redo_steps.Given as goal

abbrev pub invariant-loop-turn : goal.invariant-loop-turn
invariant-loop-turn l = record {
  net : IsSameNet l.initial.sim l.sim;
  done : AreDone l.initial.sim l.sim l.thread l.is_open l._turn l.initial.output l.output;
}
