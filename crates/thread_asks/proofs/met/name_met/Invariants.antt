use Rattle.thread_asks.specs.Met.{NamesMet}
use Rattle.thread_asks.proofs.met.name_met.Given as goal

abbrev pub invariant-loop-number : goal.invariant-loop-number
invariant-loop-number l = NamesMet l.code l.registers l.number l.fn.wires.signals l.wires.signals l.object
