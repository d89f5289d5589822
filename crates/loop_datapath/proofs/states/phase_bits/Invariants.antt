use Rattle.thread_slots.specs.Bits.{MakesBits}
use Rattle.loop_datapath.specs.declared.states.StateSet.TheVariants.{Phase}
use Rattle.loop_datapath.specs.States.{PartOf}
use Rattle.loop_datapath.specs.Wired.{AreSomeBits}
use Rattle.loop_datapath.proofs.states.phase_bits.Given as goal

abbrev pub invariant-loop-phase : goal.invariant-loop-phase
invariant-loop-phase l = record {
  shows : MakesBits l.fn.wires.signals l.wires.signals l.phase l.bits (PartOf l.never l.states (Phase l.interval));
  wired : AreSomeBits l.fn.wires.signals l.wires.signals l.never l.states l.bits;
}
