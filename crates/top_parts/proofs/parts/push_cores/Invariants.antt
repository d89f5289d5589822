use Rattle.std.proofs.Common.{◌≡◌, ◌++◌, take, map}
use Rattle.top_parts.specs.Parts.{core_part}
use Rattle.top_parts.proofs.parts.push_cores.Given as goal

abbrev pub invariant-loop-core : goal.invariant-loop-core
invariant-loop-core l = l.parts ≡ l.initial.parts ++ map (core_part l.threads) (take l.core-index l.cores)
