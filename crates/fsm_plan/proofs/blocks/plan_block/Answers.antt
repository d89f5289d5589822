use Rattle.std.proofs.Common.{◌≡◌, ◌+◌, ◌-◌, ◌∙◌, ℕ, ap, length, take, List, subst, arith, refl, vec_len}
use Rattle.std.specs.Prelude.{max, slice_index}
use Rattle.op_graph.specs.declared.node.Node.{Node}
use Rattle.op_graph.specs.Graph.{nodes_of}
use Rattle.fsm_plan.specs.Planned.{AreLeastStarts}
use Rattle.fsm_plan.specs.Steps.{AreSoon, AreBindings}
use Rattle.fsm_plan.proofs.Bridge.{length-nodes}
use Rattle.fsm_plan.proofs.Whole.{planned_run, last_off}
use Rattle.fsm_plan.proofs.blocks.plan_block.Goals as goal

pub least_starts-requires-clause-earlier : goal.least_starts-requires-clause-earlier
least_starts-requires-clause-earlier c = rw c.as_slice-2.ensures.value c.in_ok-graph.ensures.earlier

pub least_starts-requires-clause-size : goal.least_starts-requires-clause-size
least_starts-requires-clause-size c = rw c.as_slice-2.ensures.value (omega arith)

pub bind-requires-clause-graph : goal.bind-requires-clause-graph
bind-requires-clause-graph c = c.as_slice-3.ensures.value ∙ (c.in_ok-graph.ensures.nodes ∙ ap nodes_of c.as_slice.ensures)

pub bind-requires-clause-earlier : goal.bind-requires-clause-earlier
bind-requires-clause-earlier c = rw c.as_slice-3.ensures.value c.in_ok-graph.ensures.earlier

pub bind-requires-clause-few : goal.bind-requires-clause-few
bind-requires-clause-few c =
    let e : length c.in_ok-graph.graph.items ≡ length c.args.block.now.operations =
    ap (λ (l : List Node). length l) (c.in_ok-graph.ensures.nodes ∙ ap nodes_of c.as_slice.ensures) ∙ length-nodes c.args.block.now.operations in
    omega arith

pub bind-requires-clause-least : goal.bind-requires-clause-least
bind-requires-clause-least c =
    let h : AreLeastStarts c.in_ok-graph.graph.items c.in_ok-starts.starts.items = rw c.as_slice-2.ensures.value at c.in_ok-starts.ensures.least in
    rw (c.as_slice-3.ensures.value, c.as_slice-4.ensures.value) h

pub bind-requires-clause-soon : goal.bind-requires-clause-soon
bind-requires-clause-soon c =
    let h : AreSoon c.in_ok-graph.graph.items c.in_ok-starts.starts.items = rw c.as_slice-2.ensures.value at c.in_ok-starts.ensures.soon in
    rw (c.as_slice-3.ensures.value, c.as_slice-4.ensures.value) h

pub returns-then-count-gt-MOST : goal.returns-then-count-gt-MOST
returns-then-count-gt-MOST c few =
    let e : length c.in_ok-graph.graph.items ≡ length c.args.block.now.operations =
    ap (λ (l : List Node). length l) (c.in_ok-graph.ensures.nodes ∙ ap nodes_of c.as_slice.ensures) ∙ length-nodes c.args.block.now.operations in
    absurd (omega arith)

pub returns : goal.returns
returns c few =
    let block = c.args.block.now in
    let starts = c.in_ok-starts.starts.items in
    let graph : c.in_ok-graph.graph.items ≡ nodes_of block.operations = c.in_ok-graph.ensures.nodes ∙ ap nodes_of c.as_slice.ensures in
    let h : AreLeastStarts c.in_ok-graph.graph.items starts = rw c.as_slice-2.ensures.value at c.in_ok-starts.ensures.least in
    let least : AreLeastStarts (nodes_of block.operations) starts = subst (λ (l : List Node). AreLeastStarts l starts) graph h in
    let are : AreBindings block starts c.in_ok-bindings.bindings.units c.in_ok-bindings.bindings.registers c.in_ok-bindings.bindings.count =
    rw c.as_slice-4.ensures.value at c.in_ok-bindings.ensures in
    let n : length starts ≡ length block.operations + 1 = least.count ∙ ap (λ (k : ℕ). k + 1) (length-nodes block.operations) in
    let m : vec_len c.in_ok-starts.starts ≡ length block.operations + 1 = omega arith in
    let less : vec_len c.in_ok-starts.starts - 1 ≡ length block.operations = omega arith in
    let first : c.from_vec.result ≡ take (length block.operations) starts = c.from_vec.ensures ∙ (c.pop.ensures.rest ∙ ap (λ (k : ℕ). take k starts) less) in
    let states : c.max.result ≡ max 1 (slice_index starts (length block.operations)) =
    c.max.ensures ∙ last_off starts (length block.operations) (vec_len c.in_ok-starts.starts) c.pop.result c.unwrap_or-end.result m c.pop.ensures.value c.unwrap_or-end.ensures in
    planned_run block starts few least _ _ _ are _ first states refl refl
