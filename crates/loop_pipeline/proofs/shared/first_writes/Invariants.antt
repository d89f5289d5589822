use Rattle.std.proofs.Common.{◌-◌, length}
use Rattle.op_graph.specs.Reduced.{AreFirst, write_at}
use Rattle.loop_pipeline.proofs.shared.first_writes.Given as goal

abbrev pub invariant-loop-behind : goal.invariant-loop-behind
invariant-loop-behind l = AreFirst (write_at l.nodes) (length l.nodes - l.behind) l.behind l.first
