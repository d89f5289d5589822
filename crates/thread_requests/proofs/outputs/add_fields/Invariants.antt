use Rattle.std.proofs.Common.{◌≡◌, ◌++◌, take}
use Rattle.thread_requests.specs.Outputs.{fields_from}
use Rattle.thread_requests.proofs.outputs.add_fields.Given as goal

abbrev pub invariant-loop-number : goal.invariant-loop-number
invariant-loop-number l = l.rows ≡ l.fn.rows ++ fields_from l.first 0 (take l.number l.fields)
