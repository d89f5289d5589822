use Rattle.thread_promise.specs.Types.{operand_type}
use Rattle.loop_datapath.specs.Ahead.{ShowsTo}
use Rattle.loop_datapath.proofs.RoundWires.{IsPlaceIn}
use Rattle.loop_datapath.proofs.rounds.operand_in.Given as goal

abbrev pub invariant-loop-depth : goal.invariant-loop-depth
invariant-loop-depth l =
    ShowsTo l.fn.wires.signals l.wires.signals l.registers l.types l.turn l.times l.words l.rounds l.time.stage l.time.phase l.operand l.depth l.place
    × IsPlaceIn l.types l.registers l.words l.rounds l.fn.wires.signals l.wires.signals l.times.stages (operand_type l.operand) l.place
