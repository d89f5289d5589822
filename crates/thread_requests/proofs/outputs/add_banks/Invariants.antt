use Rattle.std.proofs.Common.{◌≡◌, ◌++◌, take}
use Rattle.thread_requests.specs.Outputs.{joined, rows_from}
use Rattle.thread_requests.proofs.outputs.add_banks.Given as goal

abbrev pub invariant-loop-number : goal.invariant-loop-number
invariant-loop-number l = l.rows ≡ l.fn.rows ++ joined (rows_from l.asks l.banks 0 (take l.number l.words))
