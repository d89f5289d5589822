use Rattle.std.proofs.Common.{◌≡◌, length, add-one, arith}
use Rattle.op_graph.proofs.AppendedRows.{one_step}
use Rattle.op_graph.proofs.reduced.put_reads.Goals as goal

pub loop-behind-preserved : goal.loop-behind-preserved
loop-behind-preserved c = record {
  rows = rw add-one (one_step _ _ _ _ _ c.loop-behind.invariant.rows c.in_ok-put_read.ensures.list);
  next = rw add-one c.in_ok-put_read.ensures.next;
}

pub put_read-requires-clause-next : goal.put_read-requires-clause-next
put_read-requires-clause-next c = c.loop-behind.invariant.next

pub returns : goal.returns
returns c =
    let all : c.loop-behind.behind ≡ length c.args.nodes.now = omega arith in
    rw all at c.loop-behind.invariant.rows
