use Rattle.std.proofs.Common.{◌≡◌, ◌++◌}
use Rattle.op_graph.specs.Reduced.{all_arrays, AreLast, write_at}
use Rattle.op_graph.proofs.reduced.put_arrays.Given as goal

abbrev pub invariant-loop-j : goal.invariant-loop-j
invariant-loop-j l = record {
  rows : l.list.items ≡ l.fn.list.items ++ all_arrays l.nodes l.j;
  last : AreLast (write_at l.nodes) l.j l.last;
}
