use Rattle.std.proofs.Common.{◌≡◌, ◌++◌}
use Rattle.op_graph.specs.Listed.{order_rows}
use Rattle.op_graph.proofs.table.put_orders_into.Given as goal

abbrev pub invariant-loop-i : goal.invariant-loop-i
invariant-loop-i l = l.list.items ≡ l.fn.list.items ++ order_rows l.nodes l.j l.i
