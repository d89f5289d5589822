use Rattle.loop_datapath.specs.Operations.{ShowsWords}
use Rattle.loop_datapath.specs.Wired.{AreWordsAdded}
use Rattle.loop_datapath.proofs.operations.loop_words.Given as goal

abbrev pub invariant-loop-operation : goal.invariant-loop-operation
invariant-loop-operation l =
    ShowsWords l.globals l.code l.registers l.turn l.times l.rounds l.fn.wires.signals l.wires.signals l.operation-index l.words
    × AreWordsAdded l.fn.wires.signals l.wires.signals l.code l.registers l.rounds l.times.stages l.words
