use Rattle.std.proofs.Common.{◌≡◌, ◌++◌}
use Rattle.op_graph.specs.Listed.{all_uses}
use Rattle.op_graph.proofs.rows.put_uses.Given as goal

abbrev pub invariant-loop-j : goal.invariant-loop-j
invariant-loop-j l = l.list.items ≡ l.fn.list.items ++ all_uses l.nodes l.j
