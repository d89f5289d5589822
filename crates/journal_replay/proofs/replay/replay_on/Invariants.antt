use Rattle.std.proofs.Common.{◌≤◌, ◌*◌, take}
use Rattle.sim_layout.specs.Running.{IsSameNet}
use Rattle.journal_replay.proofs.Replayed.{AreSoFar}
use Rattle.journal_replay.proofs.replay.replay_on.Given as goal

abbrev pub invariant-loop-number : goal.invariant-loop-number
invariant-loop-number l = record {
  net : IsSameNet l.initial.sim l.sim;
  so : AreSoFar l.initial.sim l.sim (take l.number l.journal) l.output l.cycles;
  few : l.cycles ≤ l.number * 4097;
}
