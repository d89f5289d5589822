-- The plan is no longer than the operations one after another.
use Rattle.std.proofs.Common.{◌≡◌, ℕ, zero, suc, ◌+◌, ◌<◌, ◌≤◌, length, refl, ap, sym, ◌∙◌, arith}
use Rattle.std.specs.Prelude.{slice_index, max}
use Rattle.lists.proofs.Places.{get_there}
use Rattle.plan_blocks.proofs.ViewRuns.{size-view}
use Rattle.block_ir.specs.declared.block.Block.{Block}
use Rattle.planned_block.specs.Block.{Operation, operation_at, size}
use Rattle.planned_block.specs.Table.{latency, greater, latencies_before, sequential}
use Rattle.plan_blocks.specs.View.{planned_view}
use Rattle.op_graph.specs.declared.node.Node.{Node}
use Rattle.op_graph.specs.Graph.{nodes_of, latency_of, latency_at, time_before, UseEarlier}
use Rattle.op_graph.proofs.OneByOne.{one_by_one}
use Rattle.fsm_plan.specs.Planned.{PlanIsShort}
use Rattle.fsm_plan.proofs.Bridge.{view_at, node_at, latency_is, length-nodes, use_earlier}

latency_alike : (b : Block) (k : ℕ) → k < length b.operations → latency (operation_at (planned_view b) k).kind ≡ latency_at (nodes_of b.operations) k
latency_alike b k l =
    let w = get_there b.operations k l in
    let e = view_at b.operations k w.0 w.1 in
    let f = node_at b.operations k w.0 w.1 in
    ap (λ (z : Operation). latency z.kind) e ∙ (latency_is w.0 k ∙ sym (ap (λ (z : Node). latency_of z.kind) f))

before_alike : (b : Block) (k : ℕ) → k ≤ length b.operations → latencies_before (planned_view b) k ≡ time_before (nodes_of b.operations) k
before_alike b zero l = refl
before_alike b (suc k) l =
    let h = before_alike b k (omega arith) in
    let e = latency_alike b k (omega arith) in
    omega (arith, h, e)

greater_max : (a c : ℕ) → greater a c ≡ max a c
greater_max a c = grind arith

max-le : (a c d : ℕ) → c ≤ d → max a c ≤ max a d
max-le a c d l = grind arith

pub plan_is_short : PlanIsShort
plan_is_short b p is =
    let n = length b.operations in
    let nodes = nodes_of b.operations in
    let nodes_length : length nodes ≡ n = length-nodes b.operations in
    let earlier : UseEarlier nodes = use_earlier b.operations in
    let within : n < length nodes + 1 = omega arith in
    let end : slice_index is.starts n ≤ time_before nodes n = is.least.least (time_before nodes) (one_by_one nodes earlier) n within in
    let same : latencies_before (planned_view b) (size (planned_view b)) ≡ time_before nodes n =
    ap (latencies_before (planned_view b)) (size-view b.operations) ∙ before_alike b n (omega arith) in
    let most : (sequential (planned_view b)).states ≡ max 1 (time_before nodes n) = greater_max 1 (latencies_before (planned_view b) (size (planned_view b)))
    ∙ ap (λ (z : ℕ). max 1 z) same in
    let low = max-le 1 (slice_index is.starts n) (time_before nodes n) end in
    let some : 1 ≤ max 1 (slice_index is.starts n) = grind arith in
    let states = is.states in
    (omega (arith, states, some), omega (arith, states, most, low))
