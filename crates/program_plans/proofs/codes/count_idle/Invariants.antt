use Rattle.std.proofs.Common.{◌≡◌, ◌+◌, ◌≤◌, drop}
use Rattle.code_following.specs.Idle.{idle_count}
use Rattle.program_plans.proofs.codes.count_idle.Given as goal

abbrev pub invariant-loop-stage : goal.invariant-loop-stage
invariant-loop-stage l = record {
  counted : idle_count l.stages ≡ l.count + idle_count (drop l.stage-index l.stages);
  most : l.count ≤ l.stage-index;
}
