use Rattle.std.proofs.Common.{◌≡◌, take}
use Rattle.std.specs.List.{flat_map}
use Rattle.program_cores.specs.Cores.{object_mutexes}
use Rattle.program_cores.proofs.objects.mutex_shapes.Given as goal

abbrev pub invariant-loop-object : goal.invariant-loop-object
invariant-loop-object l = l.mutexes ≡ flat_map (object_mutexes l.fn.threads) (take l.object-index l.objects)
