use Rattle.std.proofs.Common.{◌≡◌, ◌++◌, take}
use Rattle.thread_requests.specs.Outputs.{joined, acts_from}
use Rattle.thread_requests.proofs.outputs.add_acts.Given as goal

abbrev pub invariant-loop-number : goal.invariant-loop-number
invariant-loop-number l = l.rows ≡ l.fn.rows ++ joined (acts_from l.served l.asks l.requests l.banks (take l.number l.services))
