use Rattle.thread_asks.specs.Asking.{AsksFirst}
use Rattle.thread_asks.proofs.asking.ask_stages.Given as goal

abbrev pub invariant-loop-number : goal.invariant-loop-number
invariant-loop-number l =
    AsksFirst l.globals l.spreads l.code l.registers l.caller l.planned l.fn.wires.signals l.wires.signals l.fn.requests l.requests l.number
