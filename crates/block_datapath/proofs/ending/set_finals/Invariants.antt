use Rattle.block_datapath.specs.Ending.{SetsFirst}
use Rattle.block_datapath.specs.Wired.{SetsLinks}
use Rattle.block_datapath.proofs.ending.set_finals.Given as goal

abbrev pub invariant-loop-finish : goal.invariant-loop-finish
invariant-loop-finish l =
    SetsFirst l.fn.wires.signals l.wires.signals l.fn.last l.fn.nexts l.nexts l.finishes l.finish-index × SetsLinks l.fn.wires.signals l.wires.signals l.fn.last l.fn.nexts l.nexts
    l.finishes
