use Rattle.std.proofs.Common.{◌≡◌, ◌++◌, ◌≤◌, length, map, reverse}
use Rattle.code_merge.specs.Dropping as steps
use Rattle.code_merge.specs.Used as spec
use Rattle.code_merge.proofs.dropping.kept.Given as goal

abbrev pub invariant-loop-stage : goal.invariant-loop-stage
invariant-loop-stage l = record {
  there : length l.rest ≤ length l.used;
  kept : map (spec.renumbered (steps.number_in l.numbers)) (spec.kept l.used l.fn.stages) ≡
      map (spec.renumbered (steps.number_in l.numbers)) (spec.kept l.used l.rest) ++ reverse l.last_first.items;
}

abbrev pub decreases-loop-stage : goal.decreases-loop-stage
decreases-loop-stage l = length l.rest
