use Rattle.std.proofs.Common.{map}
use Rattle.global_naming.specs.Tables.{IsCounted, runner_of}
use Rattle.global_naming.proofs.naming.naming_threads.Given as goal

abbrev pub invariant-loop-global : goal.invariant-loop-global
invariant-loop-global l = IsCounted (map runner_of l.runners.items) l.global l.counts.items
