use Rattle.std.proofs.Common.{arith, length, refl}
use Rattle.std.proofs.lemmas.Option.{slice_get_read}
use Rattle.op_graph.proofs.NodeList.{nodes_next, use_earlier, whole}
use Rattle.op_graph.proofs.node.nodes.Goals as goal

pub loop-number-preserved : goal.loop-number-preserved
loop-number-preserved c =
    nodes_next c.args.operations.now c.loop-number.number c.index-operations-number.result c.loop-number.nodes.items c.push.new.self.items
    (slice_get_read c.args.operations.now (length c.args.operations.now) c.loop-number.number c.index-operations-number.result refl c.loop-number-test.true c.index-operations-number.is)
    c.loop-number.invariant (rw c.make_node.ensures at c.in_ok-push.ensures.items)

pub returns-clause-nodes : goal.returns-clause-nodes
returns-clause-nodes c = whole c.args.operations.now c.loop-number.number c.loop-number.nodes.items (omega (arith, c.loop-number-test.false)) c.loop-number.invariant

pub returns-clause-earlier : goal.returns-clause-earlier
returns-clause-earlier c =
    use_earlier c.args.operations.now c.loop-number.nodes.items
    (whole c.args.operations.now c.loop-number.number c.loop-number.nodes.items (omega (arith, c.loop-number-test.false)) c.loop-number.invariant)
