use Rattle.sim_layout.specs.Running.{IsSameNet}
use Rattle.journal_laws.proofs.ClosedCycles.{ArePassed}
use Rattle.journal_laws.proofs.copy_run.run_closed.Given as goal

abbrev pub invariant-loop-done : goal.invariant-loop-done
invariant-loop-done l = record {
  net : IsSameNet l.initial.sim l.sim;
  passed : ArePassed l.initial.sim l.sim l.thread l.done;
}
