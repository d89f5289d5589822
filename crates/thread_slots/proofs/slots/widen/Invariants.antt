use Rattle.thread_slots.specs.Slots.{KeepsOperations}
use Rattle.thread_slots.specs.Wired.{AreFit}
use Rattle.thread_slots.proofs.slots.widen.Given as goal

abbrev pub invariant-loop-number : goal.invariant-loop-number
invariant-loop-number l = record { room : KeepsOperations l.globals l.code l.block l.plan l.fn.widths l.widths l.number; fit : AreFit l.fn.widths → AreFit l.widths }
