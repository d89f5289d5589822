use Rattle.std.proofs.Common.{◌≡◌, take}
use Rattle.std.specs.List.{flat_map}
use Rattle.thread_semantics.specs.State.{first_mutexes}
use Rattle.c_state.proofs.state.first_mutexes.Given as goal

abbrev pub invariant-loop-object : goal.invariant-loop-object
invariant-loop-object l = l.mutexes.items ≡ flat_map first_mutexes (take l.object-index l.objects)
