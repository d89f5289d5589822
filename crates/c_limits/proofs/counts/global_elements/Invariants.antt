use Rattle.std.proofs.Common.{◌≡◌, ◌*◌, ◌^◌, ◌≤◌, take, map, sum_by}
use Rattle.c_program.specs.Plain.{global_of}
use Rattle.c_program.specs.Tree.{GlobalVariable}
use Rattle.c_limits.proofs.counts.global_elements.Given as goal

abbrev pub invariant-loop-global : goal.invariant-loop-global
invariant-loop-global l = record {
  so_far : l.total ≡ sum_by (λ (g : GlobalVariable). g.length) (map global_of (take l.global-index l.globals));
  fits : l.total ≤ l.global-index * 2 ^ 64;
}
