use Rattle.thread_states.specs.Control.{Remembers, AddsRemembered}
use Rattle.thread_states.proofs.control.remember.Given as goal

abbrev pub invariant-loop-number : goal.invariant-loop-number
invariant-loop-number l = record {
  shows : Remembers l.fn.wires.signals l.wires.signals l.granted l.got l.spreads l.stay l.number l.nexts;
  wired : AddsRemembered l.fn.wires.signals l.wires.signals l.granted l.got l.stay l.nexts;
}
