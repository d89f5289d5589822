use Rattle.thread_requests.specs.Banks.{AreWants}
use Rattle.thread_requests.proofs.banks.bank_wants.Given as goal

abbrev pub invariant-loop-number : goal.invariant-loop-number
invariant-loop-number l = AreWants l.spreads l.wants l.indices l.fn.wires.signals l.wires.signals l.number l.all
