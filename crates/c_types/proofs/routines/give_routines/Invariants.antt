use Rattle.std.proofs.Common.{◌≡◌, None, take, fold}
use Rattle.c_resolution.specs.Routines.{next_given}
use Rattle.c_types.proofs.routines.give_routines.Given as goal

abbrev pub invariant-loop-creation : goal.invariant-loop-creation
invariant-loop-creation l = (l.threads, l.fault) ≡ fold next_given (l.initial.threads, None) (take l.creation-index l.creations)
