use Rattle.std.proofs.Common.{◌≡◌, take}
use Rattle.std.specs.List.{filter}
use Rattle.code_blocks.specs.Needs.{is_narrower}
use Rattle.code_blocks.proofs.operands.narrower.Given as goal

abbrev pub invariant-loop-conversion : goal.invariant-loop-conversion
invariant-loop-conversion l = l.kept ≡ filter (is_narrower l.ty) (take l.conversion-index l.conversions)
