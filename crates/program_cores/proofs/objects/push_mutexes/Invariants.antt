use Rattle.std.proofs.Common.{◌≡◌, ◌++◌, replicate}
use Rattle.program_cores.proofs.objects.push_mutexes.Given as goal

abbrev pub invariant-loop : goal.invariant-loop
invariant-loop l = l.mutexes ≡ l.fn.mutexes ++ replicate l.counter l.shape
