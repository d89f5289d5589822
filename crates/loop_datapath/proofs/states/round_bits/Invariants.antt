use Rattle.std.proofs.Common.{◌*◌}
use Rattle.thread_slots.specs.Bits.{MakesBits}
use Rattle.loop_datapath.specs.declared.states.StateSet.TheVariants.{From}
use Rattle.loop_datapath.specs.States.{PartOf}
use Rattle.loop_datapath.specs.Wired.{AreSomeBits}
use Rattle.loop_datapath.proofs.states.round_bits.Given as goal

abbrev pub invariant-loop-round : goal.invariant-loop-round
invariant-loop-round l = record {
  shows : MakesBits l.fn.wires.signals l.wires.signals l.round l.bits (PartOf l.never l.states (λ k. From (k * l.times.interval)));
  wired : AreSomeBits l.fn.wires.signals l.wires.signals l.never l.states l.bits;
}
