use Rattle.sim_layout.specs.Running.{IsSameNet, IsSameState}
use Rattle.journal_laws.proofs.Alike.{NoneBefore}
use Rattle.journal_laws.proofs.judge.first_mover.Given as goal

abbrev pub invariant-loop-thread : goal.invariant-loop-thread
invariant-loop-thread l = record {
  net : IsSameNet l.initial.sim l.sim;
  state : IsSameState l.initial.sim l.sim;
  none : NoneBefore l.initial.sim l.from l.thread;
}
