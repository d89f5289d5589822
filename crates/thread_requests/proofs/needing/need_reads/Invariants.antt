use Rattle.thread_requests.specs.Needing.{NeedsMore, HasStates, AreTaken}
use Rattle.thread_requests.proofs.needing.need_reads.Given as goal

abbrev pub invariant-loop-number : goal.invariant-loop-number
invariant-loop-number l =
    NeedsMore l.registers (HasStates l.registers l.at l.plan.states) (AreTaken l.registers l.at l.block l.plan l.number) l.fn.wires.signals l.wires.signals l.first l.need
