use Rattle.std.proofs.Common.{◌≡◌, ◌++◌, take, map}
use Rattle.top_parts.specs.Parts.{thread_part}
use Rattle.top_parts.proofs.parts.push_threads.Given as goal

abbrev pub invariant-loop-number : goal.invariant-loop-number
invariant-loop-number l = l.parts ≡ l.initial.parts ++ map (thread_part l.asks) (take l.number-index l.threads)
