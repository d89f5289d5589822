use Rattle.thread_slots.specs.Bits.{NumberOf, MakesBits, AddsNumbers}
use Rattle.thread_slots.proofs.bits.is_each.Given as goal

abbrev pub invariant-loop-number : goal.invariant-loop-number
invariant-loop-number l = record {
  shows : MakesBits l.fn.wires.signals l.wires.signals l.number l.outs (NumberOf l.of);
  wired : AddsNumbers l.fn.wires.signals l.wires.signals l.of l.outs;
}
