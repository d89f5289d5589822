use Rattle.thread_requests.specs.Banks.{AreOneEach}
use Rattle.thread_requests.proofs.banks.one_bank_each.Given as goal

abbrev pub invariant-loop-number : goal.invariant-loop-number
invariant-loop-number l = AreOneEach l.number l.spreads
