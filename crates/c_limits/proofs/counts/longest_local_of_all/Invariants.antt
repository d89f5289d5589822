use Rattle.std.proofs.Common.{◌≡◌, take, map}
use Rattle.c_program.specs.Plain.{function_of}
use Rattle.c_program.specs.Limits.{greatest, longest_local}
use Rattle.c_limits.proofs.counts.longest_local_of_all.Given as goal

abbrev pub invariant-loop-function : goal.invariant-loop-function
invariant-loop-function l = l.longest ≡ greatest longest_local (map function_of (take l.function-index l.functions))
