use Rattle.thread_asks.specs.Fields.{AsksValues}
use Rattle.thread_asks.proofs.fields.ask_values.Given as goal

abbrev pub invariant-loop-number : goal.invariant-loop-number
invariant-loop-number l = AsksValues l.code l.registers l.fn.wires.signals l.wires.signals l.at l.fn.fields l.fields l.values l.number
