use Rattle.std.proofs.Common.{◌≡◌, ◌*◌, ◌^◌, ◌≤◌, take, sum_by}
use Rattle.c_program.specs.declared.tree.MutexObject.{MutexObject}
use Rattle.c_state.proofs.place.mutex_elements.Given as goal

abbrev pub invariant-loop-object : goal.invariant-loop-object
invariant-loop-object l = record {
  so_far : l.count ≡ sum_by (λ (object : MutexObject). object.length) (take l.object-index l.objects);
  fits : l.count ≤ l.object-index * 2 ^ 64;
}
