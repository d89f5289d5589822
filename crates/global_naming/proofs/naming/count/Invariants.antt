use Rattle.std.proofs.Common.{◌≡◌, take, map, sum_by}
use Rattle.c_program.specs.Counting.{capped}
use Rattle.global_naming.specs.Tables.{share, runner_of}
use Rattle.global_naming.proofs.naming.count.Given as goal

abbrev pub invariant-loop-runner : goal.invariant-loop-runner
invariant-loop-runner l = l.total ≡ capped (sum_by (share l.global) (map runner_of (take l.runner-index l.runners)))
