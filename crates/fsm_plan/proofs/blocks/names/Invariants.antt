use Rattle.std.proofs.Common.{◌≡◌, take}
use Rattle.fsm_plan.specs.Steps.{AreSmallNames}
use Rattle.fsm_plan.proofs.blocks.names.Given as goal

abbrev pub invariant-loop-i : goal.invariant-loop-i
invariant-loop-i l = AreSmallNames l.wide → l.narrow ≡ take l.i l.wide
