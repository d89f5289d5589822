use Rattle.std.proofs.Common.{◌≡◌, take}
use Rattle.thread_promise.specs.Types.{last_type, source_type}
use Rattle.loop_datapath.proofs.operands.operand_type.Given as goal

abbrev pub invariant-loop-conversion : goal.invariant-loop-conversion
invariant-loop-conversion l = l.ty ≡ last_type (source_type l.operand.source) (take l.conversion-index l.conversion-items)
