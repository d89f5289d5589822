use Rattle.schedule_sdc.proofs.Rounds.{IsBegun}
use Rattle.schedule_sdc.proofs.least.solve_with_history.Given as goal

abbrev pub invariant-loop-place : goal.invariant-loop-place
invariant-loop-place l = record {
  begun : IsBegun l.place l.last.items l.steps.items;
}
