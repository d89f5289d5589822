use Rattle.std.proofs.Common.{◌≡◌, length, add-one, arith}
use Rattle.op_graph.proofs.AppendedRows.{one_step}
use Rattle.op_graph.proofs.rows.put_uses.Goals as goal

pub loop-j-preserved : goal.loop-j-preserved
loop-j-preserved c = rw add-one (one_step _ _ _ _ _ c.loop-j.invariant c.in_ok-put_operands.ensures)

pub put_operands-requires-clause-earlier : goal.put_operands-requires-clause-earlier
put_operands-requires-clause-earlier c = c.requires

pub returns : goal.returns
returns c =
    let all : c.loop-j.j ≡ length c.args.nodes.now = omega arith in
    rw all at c.loop-j.invariant
