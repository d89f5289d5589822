use Rattle.std.proofs.Common.{◌≡◌, take}
use Rattle.fsm_plan.specs.Steps.{AreSmall}
use Rattle.fsm_plan.proofs.blocks.numbers.Given as goal

abbrev pub invariant-loop-i : goal.invariant-loop-i
invariant-loop-i l = AreSmall l.wide → l.narrow ≡ take l.i l.wide
