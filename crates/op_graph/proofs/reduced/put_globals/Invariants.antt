use Rattle.std.proofs.Common.{◌≡◌, ◌++◌}
use Rattle.op_graph.specs.Reduced.{all_globals, AreLast, global_at}
use Rattle.op_graph.proofs.reduced.put_globals.Given as goal

abbrev pub invariant-loop-j : goal.invariant-loop-j
invariant-loop-j l = record {
  rows : l.list.items ≡ l.fn.list.items ++ all_globals l.nodes l.j;
  last : AreLast (global_at l.nodes) l.j l.last;
}
