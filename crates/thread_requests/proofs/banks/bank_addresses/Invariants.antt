use Rattle.thread_requests.specs.Banks.{AreAddresses}
use Rattle.thread_requests.proofs.banks.bank_addresses.Given as goal

abbrev pub invariant-loop-number : goal.invariant-loop-number
invariant-loop-number l = AreAddresses l.spreads l.indices l.fn.wires.signals l.wires.signals l.number l.addresses
