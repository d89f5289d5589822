-- The operations one after another meet the table.
use Rattle.std.proofs.Common.{◌≡◌, ℕ, suc, zero, ◌<◌, ◌≤◌, ◌+◌, List, length, Bool, true, false, ap, ◌⊎◌, inl, inr, arith, pos, ◌+ℤ◌, ◌≤ℤ◌}
use Rattle.std.specs.List.{Contains}
use Rattle.std.proofs.lemmas.Int.{ints}
use Rattle.std.proofs.lemmas.Bool.{cases_eq}
use Rattle.std.proofs.lemmas.List.Elements.{All-contains_itself}
use Rattle.schedule_sdc.specs.declared.constraint.Constraint.{Constraint}
use Rattle.schedule_sdc.specs.Solution.{Meets, IsSolution}
use Rattle.op_graph.specs.declared.node.Kind.{Kind}
use Rattle.op_graph.specs.declared.node.Kind.TheVariants.{Simple, Multiply, Divide, Global, Array}
use Rattle.op_graph.specs.declared.node.Node.{Node}
use Rattle.op_graph.specs.Graph.{kind_at, UseEarlier, latency_of, latency_at, time_before}
use Rattle.op_graph.specs.Table.{Row, Ends, Chained, ChainedTwice, Kept, Awaited, OneGlobal, OneArray, gap_after, IsTable, MeetsTable}

pub at_least_one : (k : Kind) → 1 ≤ latency_of k
at_least_one Simple = omega arith
at_least_one (Multiply w) = omega arith
at_least_one (Divide w s) = omega arith
at_least_one (Global x true) = omega arith
at_least_one (Global x false) = omega arith
at_least_one (Array x w) = omega arith

-- a constraint whose gap fits between two starts
fits : (start : ℕ → ℕ) (c : Constraint) (gap : ℕ) → c.gap ≡ pos gap → start c.from + gap ≤ start c.to → Meets start c
fits start c gap e l = rw e (omega (arith, ints, l))

module _ (nodes : List Node) where
  later : (i j : ℕ) → i < j → time_before nodes i + latency_at nodes i ≤ time_before nodes j
  later i zero l = absurd (omega arith)
  later i (suc j) l = by_place (cases_eq i j) (later i j)
    where
      by_place : (i ≡ j) ⊎ (i ≡ j → ⊥) → (i < j → time_before nodes i + latency_at nodes i ≤ time_before nodes j) → time_before nodes i + latency_at nodes i ≤ time_before nodes j + latency_at nodes j
      by_place (inl e) rest =
          let p : time_before nodes i ≡ time_before nodes j = ap (time_before nodes) e in
          let q : latency_at nodes i ≡ latency_at nodes j = ap (latency_at nodes) e in
          omega arith
      by_place (inr ne) rest = let h = rest (omega (arith, ne)) in omega arith

  one_later : (i j : ℕ) → i < j → time_before nodes i + 1 ≤ time_before nodes j
  one_later i j l = let h = later i j l in let one = at_least_one (kind_at nodes i) in omega arith

  gap_is_less : (v : Bool) (x : ℕ) (k : Kind) → k ≡ Global x v → gap_after v ≤ latency_of k
  gap_is_less true x k e = rw e (omega arith)
  gap_is_less false x k e = rw e (omega arith)

  pub one_by_one : UseEarlier nodes → MeetsTable nodes (time_before nodes)
  one_by_one earlier c (Ends l t g) = fits (time_before nodes) c (latency_at nodes c.from) g (later c.from c.to (omega arith))
  one_by_one earlier c (Chained l u si sj g) = let h = one_later c.from c.to (earlier c.to c.from l u) in fits (time_before nodes) c 0 g (omega arith)
  one_by_one earlier c (ChainedTwice j l u v sh sj st g) =
      let far = earlier c.to j l u in
      let near = earlier j c.from (omega arith) v in
      fits (time_before nodes) c 1 g (one_later c.from c.to (omega arith))
  one_by_one earlier c (Kept l u si cj g) = fits (time_before nodes) c 1 g (one_later c.from c.to (earlier c.to c.from l u))
  one_by_one earlier c (Awaited l u ci g) = fits (time_before nodes) c (latency_at nodes c.from) g (later c.from c.to (earlier c.to c.from l u))
  one_by_one earlier c (OneGlobal x v w lt l p q g) =
      let h = later c.from c.to lt in
      let less = gap_is_less v x (kind_at nodes c.from) p in
      fits (time_before nodes) c (gap_after v) g (omega arith)
  one_by_one earlier c (OneArray x v w lt l p q t g) = fits (time_before nodes) c 1 g (one_later c.from c.to lt)

  pub table_solved : (list : List Constraint) (start : ℕ → ℕ) → IsTable nodes list → MeetsTable nodes start → IsSolution list start
  table_solved list start table meets = λ k d l. meets _ (table.0 _ (All-contains_itself list k d l))
