use Rattle.block_datapath.specs.Told.{ChoosesSome, IsChosenWord}
use Rattle.block_datapath.proofs.told.chosen_word.Given as goal

abbrev pub invariant-loop-number : goal.invariant-loop-number
invariant-loop-number l =
    ChoosesSome l.fn.wires.signals l.wires.signals l.registers l.spread l.width l.index l.bits l.number l.word
    × IsChosenWord l.fn.wires.signals l.wires.signals l.registers l.spread l.width l.index l.word
