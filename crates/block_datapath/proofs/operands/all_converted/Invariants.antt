use Rattle.std.proofs.Common.{take}
use Rattle.block_datapath.specs.Seen.{Converts}
use Rattle.block_datapath.specs.Wired.{AreConverted}
use Rattle.block_datapath.proofs.operands.all_converted.Given as goal

abbrev pub invariant-loop-ty : goal.invariant-loop-ty
invariant-loop-ty l =
    Converts l.fn.wires.signals l.wires.signals l.fn.word (take l.ty-index l.types) l.out × AreConverted l.fn.wires.signals l.wires.signals l.fn.word
    (take l.ty-index l.types) l.out
