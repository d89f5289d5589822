use Rattle.unit_datapath.specs.States.{TellsWork}
use Rattle.unit_datapath.proofs.states.at_work.Given as goal

abbrev pub invariant-loop-offset : goal.invariant-loop-offset
invariant-loop-offset l = TellsWork l.fn.wires.signals l.wires.signals l.registers l.end l.start l.offset l.place
