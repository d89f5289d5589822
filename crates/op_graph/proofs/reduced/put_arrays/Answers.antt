use Rattle.std.proofs.Common.{◌≡◌, length, add-one, arith}
use Rattle.op_graph.proofs.AppendedRows.{one_step}
use Rattle.op_graph.proofs.reduced.put_arrays.Goals as goal

pub loop-j-preserved : goal.loop-j-preserved
loop-j-preserved c = record {
  rows = rw add-one (one_step _ _ _ _ _ c.loop-j.invariant.rows c.in_ok-put_array.ensures.list);
  last = rw add-one c.in_ok-put_array.ensures.last;
}

pub put_array-requires-clause-last : goal.put_array-requires-clause-last
put_array-requires-clause-last c = c.loop-j.invariant.last

pub returns : goal.returns
returns c =
    let all : c.loop-j.j ≡ length c.args.nodes.now = omega arith in
    rw all at c.loop-j.invariant.rows
