use Rattle.thread_slots.specs.Bits.{WithOf, MakesBits, LaysWith, AddsWiths}
use Rattle.thread_slots.proofs.bits.both_with.Given as goal

abbrev pub invariant-loop-bit : goal.invariant-loop-bit
invariant-loop-bit l = record {
  shows : MakesBits l.fn.wires.signals l.wires.signals l.bit-index l.outs (WithOf l.bits l.other);
  laid : LaysWith l.fn.wires.signals l.wires.signals l.bits l.other l.bit-index l.outs;
  wired : AddsWiths l.fn.wires.signals l.wires.signals l.bits l.other l.outs;
}
