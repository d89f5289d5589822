use Rattle.std.proofs.Common.{◌≡◌, ◌*◌, ◌^◌, ◌≤◌, take, sum_by}
use Rattle.c_program.specs.declared.tree.BarrierObject.{BarrierObject}
use Rattle.program_cores.proofs.objects.element_count.Given as goal

abbrev pub invariant-loop-object : goal.invariant-loop-object
invariant-loop-object l = record {
  so_far : l.count ≡ sum_by (λ (object : BarrierObject). object.length) (take l.object-index l.program.barriers.items);
  fits : l.count ≤ l.object-index * 2 ^ 64;
}
