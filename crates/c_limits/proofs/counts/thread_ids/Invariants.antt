use Rattle.std.proofs.Common.{◌≡◌, ◌*◌, ◌^◌, ◌≤◌, take, sum_by}
use Rattle.c_program.specs.declared.tree.ThreadObject.{ThreadObject}
use Rattle.c_limits.proofs.counts.thread_ids.Given as goal

abbrev pub invariant-loop-object : goal.invariant-loop-object
invariant-loop-object l = record {
  so_far : l.total ≡ sum_by (λ (object : ThreadObject). object.length) (take l.object-index l.threads);
  fits : l.total ≤ l.object-index * 2 ^ 64;
}
