use Rattle.std.proofs.Common.{◌≡◌, ◌++◌}
use Rattle.op_graph.specs.Listed.{end_rows}
use Rattle.op_graph.proofs.rows.put_ends.Given as goal

abbrev pub invariant-loop-i : goal.invariant-loop-i
invariant-loop-i l = l.list.items ≡ l.fn.list.items ++ end_rows l.nodes l.i
