use Rattle.std.proofs.Common.{◌≡◌, ◌≤◌, ◌+◌, ◌*◌, ◌^◌, drop}
use Rattle.run_command.specs.Counts.{cycle_count}
use Rattle.run_command.proofs.count.cycles_of.Given as goal

abbrev pub invariant-loop-number : goal.invariant-loop-number
invariant-loop-number l = record {
  count : cycle_count l.journal ≡ l.cycles + cycle_count (drop l.number l.journal);
  few : l.cycles ≤ l.number * 2 ^ 64;
}
