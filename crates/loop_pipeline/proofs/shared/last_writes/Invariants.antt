use Rattle.op_graph.specs.Reduced.{AreLast, write_at}
use Rattle.loop_pipeline.proofs.shared.last_writes.Given as goal

abbrev pub invariant-loop-j : goal.invariant-loop-j
invariant-loop-j l = AreLast (write_at l.nodes) l.j l.last
