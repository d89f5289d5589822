use Rattle.std.proofs.Common.{◌≡◌, ◌++◌}
use Rattle.circuit.specs.Rows.{spread}
use Rattle.top_parts.specs.Parts.{arbiter_part}
use Rattle.top_parts.proofs.parts.push_arbiters.Given as goal

abbrev pub invariant-loop-number : goal.invariant-loop-number
invariant-loop-number l = l.parts ≡ l.initial.parts ++ spread (arbiter_part l.threads l.arbiter) 0 l._number
