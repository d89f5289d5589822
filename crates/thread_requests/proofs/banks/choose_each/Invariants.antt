use Rattle.thread_requests.specs.Banks.{AreChosen}
use Rattle.thread_requests.proofs.banks.choose_each.Given as goal

abbrev pub invariant-loop-number : goal.invariant-loop-number
invariant-loop-number l = AreChosen l.fn.wires.signals l.wires.signals l.want l.last l.never l.bits l.number l.chosen
