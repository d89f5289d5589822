use Rattle.std.proofs.Common.{◌≡◌, ◌+◌, ◌<◌, ◌≤◌, ◌^◌, ◌∙◌, ap, length, List, arith}
use Rattle.op_graph.specs.declared.node.Node.{Node}
use Rattle.op_graph.specs.Graph.{nodes_of}
use Rattle.fsm_plan.specs.Planned.{AreLeastStarts}
use Rattle.fsm_plan.specs.Steps.{AreSoon}
use Rattle.plan_tests.proofs.Sizes.{length_nodes, fits}
use Rattle.plan_tests.proofs.bindings.is_bound.Goals as goal

pub least_starts-requires-clause-earlier : goal.least_starts-requires-clause-earlier
least_starts-requires-clause-earlier c = rw c.as_slice-2.ensures.value c.in_ok-graph.ensures.earlier

pub least_starts-requires-clause-size : goal.least_starts-requires-clause-size
least_starts-requires-clause-size c =
    let few = c.requires in
    let e : length c.in_ok-graph.graph.items ≡ length c.args.block.now.operations =
    ap (λ (l : List Node). length l) (c.in_ok-graph.ensures.nodes ∙ ap nodes_of c.as_slice.ensures) ∙ length_nodes c.args.block.now.operations in
    rw c.as_slice-2.ensures.value (omega (arith, few, e))

pub bind_units-requires-clause-starts : goal.bind_units-requires-clause-starts
bind_units-requires-clause-starts c =
    let h : AreLeastStarts c.in_ok-graph.graph.items c.in_ok-starts.starts.items = rw c.as_slice-2.ensures.value at c.in_ok-starts.ensures.least in
    let n = h.count in
    rw (c.as_slice-3.ensures.value, c.as_slice-4.ensures.value) (omega (arith, n))

pub bind_units-requires-clause-fits : goal.bind_units-requires-clause-fits
bind_units-requires-clause-fits c =
    let few = c.requires in
    let e : length c.in_ok-graph.graph.items ≡ length c.args.block.now.operations =
    ap (λ (l : List Node). length l) (c.in_ok-graph.ensures.nodes ∙ ap nodes_of c.as_slice.ensures) ∙ length_nodes c.args.block.now.operations in
    let h : AreSoon c.in_ok-graph.graph.items c.in_ok-starts.starts.items = rw c.as_slice-2.ensures.value at c.in_ok-starts.ensures.soon in
    rw (c.as_slice-3.ensures.value, c.as_slice-4.ensures.value) (fits c.in_ok-graph.graph.items c.in_ok-starts.starts.items h (omega (arith, few, e)))

pub bind_registers-requires-clause-nodes : goal.bind_registers-requires-clause-nodes
bind_registers-requires-clause-nodes c =
    let e : length c.in_ok-graph.graph.items ≡ length c.args.block.now.operations =
    ap (λ (l : List Node). length l) (c.in_ok-graph.ensures.nodes ∙ ap nodes_of c.as_slice.ensures) ∙ length_nodes c.args.block.now.operations in
    rw c.as_slice-5.ensures.value e

pub bind_registers-requires-clause-earlier : goal.bind_registers-requires-clause-earlier
bind_registers-requires-clause-earlier c = rw c.as_slice-5.ensures.value c.in_ok-graph.ensures.earlier

pub bind_registers-requires-clause-starts : goal.bind_registers-requires-clause-starts
bind_registers-requires-clause-starts c =
    let h : AreLeastStarts c.in_ok-graph.graph.items c.in_ok-starts.starts.items = rw c.as_slice-2.ensures.value at c.in_ok-starts.ensures.least in
    rw (c.as_slice-5.ensures.value, c.as_slice-6.ensures.value) h.count

pub bind_registers-requires-clause-fits : goal.bind_registers-requires-clause-fits
bind_registers-requires-clause-fits c =
    let few = c.requires in
    let e : length c.in_ok-graph.graph.items ≡ length c.args.block.now.operations =
    ap (λ (l : List Node). length l) (c.in_ok-graph.ensures.nodes ∙ ap nodes_of c.as_slice.ensures) ∙ length_nodes c.args.block.now.operations in
    let h : AreSoon c.in_ok-graph.graph.items c.in_ok-starts.starts.items = rw c.as_slice-2.ensures.value at c.in_ok-starts.ensures.soon in
    rw (c.as_slice-5.ensures.value, c.as_slice-6.ensures.value) (fits c.in_ok-graph.graph.items c.in_ok-starts.starts.items h (omega (arith, few, e)))
