-- The least solution of the reduced list, as the least starts of the table.
use Rattle.std.proofs.Common.{ℕ, zero, suc, ◌+◌, ◌*◌, ◌^◌, ◌<◌, ◌≤◌, List, length, arith}
use Rattle.std.specs.Prelude.{slice_index}
use Rattle.schedule_sdc.specs.declared.constraint.Constraint.{Constraint}
use Rattle.schedule_sdc.specs.Solution.{IsSolution, IsLeast, FitsIfSolvable}
use Rattle.op_graph.specs.declared.node.Kind.{Kind}
use Rattle.op_graph.specs.declared.node.Kind.TheVariants.{Simple, Multiply, Divide, Global, Array}
use Rattle.op_graph.specs.declared.node.Node.{Node}
use Rattle.op_graph.specs.Graph.{kind_at, latency_of, time_before, done}
use Rattle.op_graph.specs.Table.{MeetsTable, HasItsSolutions}
use Rattle.fsm_plan.specs.Planned.{AreLeastStarts}
use Rattle.fsm_plan.specs.Steps.{AreSoon}
use Rattle.std.specs.Prelude.{true, false}

pub at_most_eight : (k : Kind) → latency_of k ≤ 8
at_most_eight Simple = omega arith
at_most_eight (Multiply w) = omega arith
at_most_eight (Divide w s) = omega arith
at_most_eight (Global x true) = omega arith
at_most_eight (Global x false) = omega arith
at_most_eight (Array x w) = omega arith

pub time_short : (nodes : List Node) (i : ℕ) → time_before nodes i ≤ 8 * i
time_short nodes zero = omega arith
time_short nodes (suc i) = let h = time_short nodes i in let e = at_most_eight (kind_at nodes i) in omega (arith, h, e)

module _ (nodes : List Node) (list : List Constraint) (same : HasItsSolutions nodes list) (meets : MeetsTable nodes (time_before nodes)) where
  pub solved : IsSolution list (time_before nodes)
  solved = let h = same (time_before nodes) in h.1 meets

  pub fits : length nodes < 2 ^ 32 → FitsIfSolvable (length nodes + 1) list
  fits few = record {
    small = λ t solves. (time_before nodes, solved, λ i l. (let h = time_short nodes i in omega (arith, h)));
  }

  module _ (starts : List ℕ) (least : IsLeast (length nodes + 1) list starts) where
    pub least_starts : AreLeastStarts nodes starts
    least_starts = record {
      count = least.places;
      meets = (let h = same (slice_index starts) in h.0 least.meets);
      least = λ t m i l. (let h = same t in least.least t (h.1 m) i l);
    }

    pub soon : AreSoon nodes starts
    soon i l =
        let a = least.least (time_before nodes) solved i (omega arith) in
        let b = time_short nodes i in
        omega (arith, a, b)

-- the states after the last ones are numbers of 64 bits
pub done_fits : (nodes : List Node) (starts : List ℕ) → AreSoon nodes starts → length nodes < 2 ^ 32 → (i : ℕ) → i < length nodes → done nodes starts i < 2 ^ 64
done_fits nodes starts soon few i l =
    let h = soon i (omega arith) in
    let e = at_most_eight (kind_at nodes i) in
    omega (arith, h, e)
