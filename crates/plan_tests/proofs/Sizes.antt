-- Numbers of operations, and the states in which they end.
use Rattle.std.proofs.Common.{◌≡◌, ◌^◌, ◌<◌, ℕ, suc, ap, refl, length, List, [], ◌∷◌, arith}
use Rattle.block_ir.specs.declared.block.Operation.{Operation}
use Rattle.op_graph.specs.declared.node.Node.{Node}
use Rattle.op_graph.specs.Graph.{nodes_from, nodes_of, kind_at, Fits}
use Rattle.fsm_plan.specs.Steps.{AreSoon}
use Rattle.fsm_plan.proofs.LeastStarts.{at_most_eight}

length_from : (os : List Operation) (k : ℕ) → length (nodes_from k os) ≡ length os
length_from [] k = refl
length_from (o ∷ os) k = ap suc (length_from os (suc k))

pub length_nodes : (os : List Operation) → length (nodes_of os) ≡ length os
length_nodes os = length_from os 0

pub fits : (nodes : List Node) (starts : List ℕ) → AreSoon nodes starts → length nodes < 2 ^ 32 → Fits nodes starts
fits nodes starts soon few i l =
    let h = soon i (omega arith) in
    let e = at_most_eight (kind_at nodes i) in
    omega (arith, h, e)
