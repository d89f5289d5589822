use Rattle.loop_datapath.specs.Wired.{SetsFinalLinks}
use Rattle.loop_datapath.proofs.LoopFinals.{SetsSome}
use Rattle.loop_datapath.proofs.leaving_loop.set_loop_finals.Given as goal

abbrev pub invariant-loop-last : goal.invariant-loop-last
invariant-loop-last l =
    SetsSome l.initial.wires.signals l.wires.signals l.code l.registers l.turn l.times l.words l.at l.ends l.fn.variables l.variables l.turn.finals l.last-index
    × SetsFinalLinks l.initial.wires.signals l.wires.signals l.code.variables l.registers l.words l.ends l.ends l.fn.variables l.variables
