use Rattle.std.proofs.Common.{◌≡◌, ◌++◌, take}
use Rattle.std.specs.List.{flat_map}
use Rattle.plan_report.specs.Words.{type_words}
use Rattle.plan_report.proofs.operations.put_types.Given as goal

abbrev pub invariant-loop-ty : goal.invariant-loop-ty
invariant-loop-ty l = l.out ≡ l.fn.out ++ flat_map type_words (take l.ty-index l.types)
