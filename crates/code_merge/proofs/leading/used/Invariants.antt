use Rattle.std.proofs.Common.{◌≡◌, take}
use Rattle.code_merge.specs.Used as spec
use Rattle.code_merge.proofs.leading.used.Given as goal

abbrev pub invariant-loop-at : goal.invariant-loop-at
invariant-loop-at l = l.used ≡ spec.used_from l.fn.stages 0 (take l.at l.fn.stages)
