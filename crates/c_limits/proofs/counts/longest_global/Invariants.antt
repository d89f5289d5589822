use Rattle.std.proofs.Common.{◌≡◌, take, map}
use Rattle.c_program.specs.Plain.{global_of}
use Rattle.c_limits.specs.Counts.{length_of}
use Rattle.c_program.specs.Limits.{greatest}
use Rattle.c_limits.proofs.counts.longest_global.Given as goal

abbrev pub invariant-loop-global : goal.invariant-loop-global
invariant-loop-global l = l.longest ≡ greatest length_of (map global_of (take l.global-index l.globals))
