use Rattle.block_datapath.specs.Chains.{KeepsFirst}
use Rattle.block_datapath.specs.Wired.{KeepsLinks, ValuesStand}
use Rattle.block_datapath.proofs.keeping.keep_all.Given as goal

abbrev pub invariant-loop-given : goal.invariant-loop-given
invariant-loop-given l =
    KeepsFirst l.fn.wires.signals l.wires.signals l.registers l.end.at l.end.states l.fn.nexts l.nexts l.values l.given-index
    × KeepsLinks l.fn.wires.signals l.wires.signals l.registers l.end.at l.end.states l.fn.nexts l.nexts (ValuesStand l.fn.wires.signals l.values)
