use Rattle.std.proofs.Common.{◌≡◌, ◌-◌, ◌+◌, length}
use Rattle.loop_plans.specs.Listed.{origin_from, origin_of}
use Rattle.loop_plans.proofs.carried.origin_of.Given as goal

abbrev pub invariant-loop-turn : goal.invariant-loop-turn
invariant-loop-turn l = origin_from l.finals (length l.finals - l.turn) (l.turn + 1) l.variable ≡ origin_of l.finals l.fn.variable
