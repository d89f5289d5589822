-- An order that meets the constraints may be sorted.
use Rattle.std.proofs.Common.{◌≡◌, ℕ, ◌<◌, ◌≤◌, List, [], ◌∷◌, length, Bool, true, false, refl, ap, ◌∙◌, ◌⊎◌, inl, inr, arith, pos, ◌||◌}
use Rattle.std.specs.List.{AllByRecursion, Contains}
use Rattle.std.proofs.lemmas.Bool.{cases_Bool}
use Rattle.schedule_sdc.specs.declared.constraint.Constraint.{Constraint}
use Rattle.op_graph.specs.declared.node.Node.{Node}
use Rattle.op_graph.specs.Graph.{kind_at, Uses, is_simple, latency_at, UseEarlier}
use Rattle.op_graph.specs.Table.{IsTable, Row, Chained, Kept, Awaited, OneGlobal, OneArray, gap_after}
use Rattle.fsm_plan.specs.Run.{State, Given, run}
use Rattle.fsm_plan.specs.Law.{MeetsOrder, IsOrder, from_on, OrdersAgree}
use Rattle.fsm_plan.proofs.Commute.{Commutes, apart_or_idle, commutes}
use Rattle.fsm_plan.proofs.Sort.{sort, run_sort, MayCross, all_sort, length_sort, rises_sort, is_from_on}

module _ (g : Given) (nodes : List Node) (list : List Constraint) (earlier : UseEarlier nodes) (table : IsTable nodes list) where
  -- no constraint leads from b to a
  abbrev Free : ℕ → ℕ → Type 0
  Free b a = (c : Constraint) → Contains list c → c.from ≡ b → c.to ≡ a → ⊥

  refuted : (b a gap : ℕ) → Free b a → Row nodes (record { from = b; to = a; gap = pos gap }) → ⊥
  refuted b a gap free row = free (record { from = b; to = a; gap = pos gap }) (table.1 (record { from = b; to = a; gap = pos gap }) row) refl refl

  unused_by : (b a : ℕ) → a < length nodes → Free b a → Uses nodes a b → (is_simple (kind_at nodes b) ≡ true) ⊎ (is_simple (kind_at nodes b) ≡ false) →
      (is_simple (kind_at nodes a) ≡ true) ⊎ (is_simple (kind_at nodes a) ≡ false) → ⊥
  unused_by b a l free u (inl p) (inl q) = refuted b a 0 free (Chained l u p q refl)
  unused_by b a l free u (inl p) (inr q) = refuted b a 1 free (Kept l u p q refl)
  unused_by b a l free u (inr p) q = refuted b a (latency_at nodes b) free (Awaited l u p refl)

  crossed : (a b : ℕ) → a < length nodes → b < length nodes → b < a → Free b a → Commutes g nodes a b
  crossed a b la lb lt free =
      let differs : a ≡ b → ⊥ = λ e. omega arith in
      let ab : Uses nodes a b → ⊥ = λ u. unused_by b a la free u (cases_Bool (is_simple (kind_at nodes b))) (cases_Bool (is_simple (kind_at nodes a))) in
      let ba : Uses nodes b a → ⊥ = λ u. (let h = earlier b a lb u in omega arith) in
      let d = apart_or_idle g (kind_at nodes a) (kind_at nodes b) (λ x v w e f. refuted b a (gap_after v) free (OneGlobal x v w lt la e f refl))
      (λ x v w e f t. refuted b a 1 free (OneArray x v w lt la e f t refl)) in
      let d' = apart_or_idle g (kind_at nodes b) (kind_at nodes a) (λ x v w e f. refuted b a (gap_after w) free (OneGlobal x w v lt la f e refl))
      (λ x v w e f t. refuted b a 1 free (OneArray x w v lt la f e (flip v w t) refl)) in
      commutes g nodes a b differs ab ba d d'
    where
      flip : (v w : Bool) → (v || w) ≡ true → (w || v) ≡ true
      flip true true t = refl
      flip true false t = refl
      flip false true t = refl
      flip false false t = t

  may_cross_one : (a : ℕ) (order : List ℕ) → a < length nodes → AllByRecursion (λ i. i < length nodes) order → AllByRecursion (λ b. Free b a) order →
      AllByRecursion (λ b. b < a → Commutes g nodes a b) order
  may_cross_one a [] l below free = tt
  may_cross_one a (b ∷ order) l below free = ((λ lt. crossed a b l below.0 lt free.0), may_cross_one a order l below.1 free.1)

  may_cross : (order : List ℕ) → AllByRecursion (λ i. i < length nodes) order → MeetsOrder list order → MayCross g nodes order
  may_cross [] below meets = tt
  may_cross (a ∷ order) below meets = (may_cross_one a order below.0 below.1 meets.0, may_cross order below.1 meets.1)

  all_low : (m : List ℕ) → AllByRecursion (λ b. 0 ≤ b) m
  all_low [] = tt
  all_low (b ∷ m) = (omega arith, all_low m)

  agree : (order : List ℕ) → IsOrder (length nodes) order → MeetsOrder list order → (s : State) → run g nodes order s ≡ run g nodes (from_on 0 (length nodes)) s
  agree order is meets s =
      let n : length (sort order) ≡ length nodes = length_sort order ∙ is.count in
      let sorted : sort order ≡ from_on 0 (length (sort order)) = is_from_on (length nodes) (sort order) 0 (rises_sort order is.apart)
      (all_sort (λ i. i < length nodes) order is.below) (all_low (sort order)) (omega arith) in
      run_sort g nodes order (may_cross order is.below meets) s ∙ (ap (λ (m : List ℕ). run g nodes m s) sorted ∙ ap (λ (k : ℕ). run g nodes (from_on 0 k) s) n)

pub orders_agree : OrdersAgree
orders_agree g nodes list earlier table order is meets s = agree g nodes list earlier table order is meets s
