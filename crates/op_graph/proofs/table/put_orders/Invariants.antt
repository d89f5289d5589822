use Rattle.std.proofs.Common.{◌≡◌, ◌++◌}
use Rattle.op_graph.specs.Listed.{all_orders}
use Rattle.op_graph.proofs.table.put_orders.Given as goal

abbrev pub invariant-loop-j : goal.invariant-loop-j
invariant-loop-j l = l.list.items ≡ l.fn.list.items ++ all_orders l.nodes l.j
