use Rattle.thread_slots.specs.Bits.{NotOf, MakesBits, AddsNots}
use Rattle.thread_slots.proofs.bits.not_each.Given as goal

abbrev pub invariant-loop-bit : goal.invariant-loop-bit
invariant-loop-bit l = record {
  shows : MakesBits l.fn.wires.signals l.wires.signals l.bit-index l.outs (NotOf l.bits);
  wired : AddsNots l.fn.wires.signals l.wires.signals l.bits l.outs;
}
