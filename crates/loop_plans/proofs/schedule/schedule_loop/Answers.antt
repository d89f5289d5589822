use Rattle.std.proofs.Common.{◌≡◌, length, List, ap, ◌∙◌, arith}
use Rattle.op_graph.specs.declared.node.Node.{Node}
use Rattle.op_graph.specs.Graph.{nodes_of}
use Rattle.loop_pipeline.specs.Table.{AreCarried}
use Rattle.loop_plans.specs.Carried.{AreUses}
use Rattle.loop_plans.proofs.NodeViews.{length-nodes}
use Rattle.loop_plans.proofs.ScheduledLoops.{compared_inside, scheduled_result}
use Rattle.loop_plans.proofs.schedule.schedule_loop.Goals as goal

pub pipeline-requires-clause-earlier : goal.pipeline-requires-clause-earlier
pipeline-requires-clause-earlier c = rw c.deref.ensures.value c.in_ok-graph.ensures.earlier

pub pipeline-requires-clause-size : goal.pipeline-requires-clause-size
pipeline-requires-clause-size c =
    let n : length c.in_ok-graph.graph.items ≡ length c.args.turn.now.operations =
    ap (λ (l : List Node). length l) (c.in_ok-graph.ensures.nodes ∙ ap nodes_of c.as_slice.ensures) ∙ length-nodes c.args.turn.now.operations in
    rw c.deref.ensures.value (omega (arith, n, c.requires.operations))

pub pipeline-requires-clause-comparison : goal.pipeline-requires-clause-comparison
pipeline-requires-clause-comparison c =
    let n : length c.in_ok-graph.graph.items ≡ length c.args.turn.now.operations =
    ap (λ (l : List Node). length l) (c.in_ok-graph.ensures.nodes ∙ ap nodes_of c.as_slice.ensures) ∙ length-nodes c.args.turn.now.operations in
    let inside = compared_inside c.args.turn.now c.args.comparison c.requires.fits in
    rw c.deref.ensures.value (omega (arith, n, inside))

pub pipeline-requires-clause-carried : goal.pipeline-requires-clause-carried
pipeline-requires-clause-carried c =
    let n : length c.in_ok-graph.graph.items ≡ length c.args.turn.now.operations =
    ap (λ (l : List Node). length l) (c.in_ok-graph.ensures.nodes ∙ ap nodes_of c.as_slice.ensures) ∙ length-nodes c.args.turn.now.operations in
    let are : AreCarried (length c.args.turn.now.operations) c.in_ok-carried.carried.items = rw c.as_slice-2.ensures at c.in_ok-carried.ensures.carried in
    rw (c.deref.ensures.value, c.deref-2.ensures.value, n) are

pub returns-clause-scheduled : goal.returns-clause-scheduled
returns-clause-scheduled c =
    let uses : AreUses c.args.turn.now.operations c.args.turn.now.finals c.in_ok-carried.carried.items =
    rw (c.as_slice-2.ensures, c.as_slice-3.ensures) at c.in_ok-carried.ensures.uses in
    scheduled_result c.args.turn.now c.args.comparison c.args.least c.deref.result.now c.deref-2.result.now c.in_ok-carried.carried.items c.pipeline.result
    (c.deref.ensures.value ∙ (c.in_ok-graph.ensures.nodes ∙ ap nodes_of c.as_slice.ensures)) c.deref-2.ensures.value uses c.pipeline.ensures.pipeline
