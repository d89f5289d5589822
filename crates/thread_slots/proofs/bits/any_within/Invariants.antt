use Rattle.thread_slots.specs.Bits.{MakesAny, AddsAny, is_in}
use Rattle.thread_slots.proofs.bits.any_within.Given as goal

abbrev pub invariant-loop-number : goal.invariant-loop-number
invariant-loop-number l = record {
  shows : MakesAny l.fn.wires.signals l.wires.signals l.first l.bits (is_in l.spread) l.number l.any;
  wired : AddsAny l.fn.wires.signals l.wires.signals l.first l.bits l.any;
}
