use Rattle.thread_slots.specs.Bits.{MakesBits}
use Rattle.loop_datapath.specs.States.{StateOf}
use Rattle.loop_datapath.specs.Wired.{AreStateBits}
use Rattle.loop_datapath.proofs.states.state_bits.Given as goal

abbrev pub invariant-loop-state : goal.invariant-loop-state
invariant-loop-state l = record {
  shows : MakesBits l.fn.wires.signals l.wires.signals l.state l.bits (StateOf l.registers l.at l.states);
  wired : AreStateBits l.fn.wires.signals l.wires.signals l.registers l.at l.states l.bits;
}
