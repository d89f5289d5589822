use Rattle.std.proofs.Common.{◌≡◌, ◌++◌}
use Rattle.loop_pipeline.specs.Listed.{shared_rows}
use Rattle.loop_pipeline.proofs.shared.put_shared.Given as goal

abbrev pub invariant-loop-j : goal.invariant-loop-j
invariant-loop-j l = l.list.items ≡ l.fn.list.items ++ shared_rows l.nodes l.gap l.j
