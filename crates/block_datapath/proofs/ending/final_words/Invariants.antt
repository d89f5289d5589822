use Rattle.block_datapath.specs.Ending.{ShowsFinals}
use Rattle.block_datapath.specs.Wired.{AreFinishesAdded}
use Rattle.block_datapath.proofs.ending.final_words.Given as goal

abbrev pub invariant-loop-finish : goal.invariant-loop-finish
invariant-loop-finish l =
    ShowsFinals l.registers l.code l.values l.fn.state l.fn.wires.signals l.wires.signals l.finals l.finish-index l.finishes
    × AreFinishesAdded l.fn.wires.signals l.wires.signals l.code l.registers l.values l.finishes
