use Rattle.std.proofs.Common.{◌≡◌, ◌-◌, ◌++◌, length}
use Rattle.op_graph.specs.Reduced.{all_reads, AreFirst, write_at}
use Rattle.op_graph.proofs.reduced.put_reads.Given as goal

abbrev pub invariant-loop-behind : goal.invariant-loop-behind
invariant-loop-behind l = record {
  rows : l.list.items ≡ l.fn.list.items ++ all_reads l.nodes l.behind;
  next : AreFirst (write_at l.nodes) (length l.nodes - l.behind) l.behind l.next;
}
