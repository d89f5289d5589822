use Rattle.std.proofs.Common.{true}
use Rattle.thread_slots.specs.Bits.{MakesAny, AddsAny}
use Rattle.thread_slots.proofs.bits.any_of.Given as goal

abbrev pub invariant-loop-bit : goal.invariant-loop-bit
invariant-loop-bit l = record {
  shows : MakesAny l.fn.wires.signals l.wires.signals l.first l.bits (λ k. true) l.bit-index l.any;
  wired : AddsAny l.fn.wires.signals l.wires.signals l.first l.bits l.any;
}
