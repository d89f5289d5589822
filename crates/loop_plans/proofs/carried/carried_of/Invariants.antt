use Rattle.std.proofs.Common.{◌≡◌, take}
use Rattle.loop_plans.specs.Listed.{uses_from}
use Rattle.loop_plans.proofs.carried.carried_of.Given as goal

abbrev pub invariant-loop-number : goal.invariant-loop-number
invariant-loop-number l = l.list.items ≡ uses_from l.finals 0 (take l.number l.operations)
