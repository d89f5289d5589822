use Rattle.thread_slots.specs.Bits.{BothOf, MakesBits, AddsBoths}
use Rattle.thread_slots.proofs.bits.both_each.Given as goal

abbrev pub invariant-loop-number : goal.invariant-loop-number
invariant-loop-number l = record {
  shows : MakesBits l.fn.wires.signals l.wires.signals l.number l.outs (BothOf l.left l.right);
  wired : AddsBoths l.fn.wires.signals l.wires.signals l.left l.right l.outs;
}
