-- The plan keeps the orders of a block.
use Rattle.std.proofs.Common.{◌≡◌, ◌≢◌, ℕ, zero, suc, ◌+◌, ◌-◌, ◌<◌, ◌≤◌, Bool, true, false, ◌||◌, List, [], ◌∷◌, length, slice_get, get_or, Option, Some, None}
use Rattle.std.proofs.Common.{if◌then◌else◌, refl, sym, ap, subst, ◌∙◌, ◌⊎◌, inl, inr, arith}
use Rattle.std.specs.Prelude.{slice_index, max}
use Rattle.std.proofs.lemmas.Bool.{cases_lt}
use Rattle.std.proofs.lemmas.Int.{ints}
use Rattle.std.proofs.lemmas.List.{get_or-take}
use Rattle.std.proofs.Math.Logic.{⊎_swap}
use Rattle.lists.proofs.Places.{get_there}
use Rattle.plan_blocks.proofs.ViewRuns.{size-view}
use Rattle.schedule_sdc.specs.Solution.{Meets}
use Rattle.block_ir.specs.declared.block.Block.{Block as CodeBlock}
use Rattle.block_ir.specs.declared.block.Operation.{Operation as CodeOperation}
use Rattle.block_ir.specs.declared.plan.BlockPlan.{BlockPlan}
use Rattle.interval_pack.specs.LeftEdge.{IsBefore}
use Rattle.planned_block.specs.Block.{Block, Operation, operation_at, size, Uses, IsOrdered}
use Rattle.planned_block.specs.Plan.{Plan, last_state, is_simple as seen_simple, target_of, OfGlobal, OfArray, gap_after as seen_gap, KeepsOrders}
use Rattle.planned_block.specs.Table.{MeetsTable as MeetsTableView, IsPacked, latency, greater, uses_in, last_user, last_use, any_final as any_final_view}
use Rattle.planned_block.specs.Table.{next_uses as next_uses_view}
use Rattle.planned_block.proofs.Tables.{keeps_orders}
use Rattle.plan_blocks.specs.View.{planned_view, plan_view, starts_view, register_at as view_register}
use Rattle.plan_blocks.specs.Alike.{IsInOrder}
use Rattle.plan_blocks.proofs.OrderedView.{view_ordered}
use Rattle.op_graph.specs.declared.node.Kind.TheVariants.{Global, Array}
use Rattle.op_graph.specs.declared.node.Node.{Node}
use Rattle.op_graph.specs.Graph.{node, nodes_of, kind_at, is_simple, latency_of, latency_at, Uses as UsesNode, UsesValue, done, same_kind}
use Rattle.op_graph.specs.Table.{Row, Ends, Chained, ChainedTwice, Kept, Awaited, OneGlobal, OneArray, gap_after}
use Rattle.op_graph.specs.Listed.{row}
use Rattle.op_graph.proofs.OneByOne.{at_least_one}
use Rattle.plan_conditions.specs.Right.{AreUnitsApart}
use Rattle.unit_binding.proofs.SameKinds.{same_back}
use Rattle.register_binding.specs.Used.{any_final, is_used_at_end}
use Rattle.register_binding.specs.Registers.{uses_value, needed_to, life_end, Lives, LiveTogether, register_at, number}
use Rattle.fsm_plan.specs.Planned.{IsPlannedBlock, PlanKeepsOrders}
use Rattle.fsm_plan.proofs.Bridge.{view_at, node_at, needs_at, length-nodes, simple_is, latency_is, global_is, array_is, uses_is, uses_test}
use Rattle.fsm_plan.proofs.Bridge.{finals_test, next_test}

pub view_register_is : (rs : List (Option ℕ)) (k : ℕ) → view_register rs k ≡ get_or rs k None
view_register_is [] k = refl
view_register_is (r ∷ rs) zero = refl
view_register_is (r ∷ rs) (suc k) = view_register_is rs k

-- last uses depend on the starts of the block's operations alone
last_user_alike : (b : Block) (p q : Plan) (k n : ℕ) → ((m : ℕ) → p.start m ≡ q.start m) → last_user b p k n ≡ last_user b q k n
last_user_alike b p q k zero same = refl
last_user_alike b p q k (suc n) same =
    let uses = uses_in (operation_at b n).left k || uses_in (operation_at b n).right k in
    let ends : last_state b p n ≡ last_state b q n = let e = same n in omega arith in
    ap (λ (x : ℕ). greater x (if uses then last_state b p n else 0)) (last_user_alike b p q k n same) ∙ ap (λ (x : ℕ). greater (last_user b q k n) (if uses then x else 0)) ends

last_use_alike : (b : Block) (p q : Plan) (k : ℕ) → ((m : ℕ) → p.start m ≡ q.start m) → p.states ≡ q.states → last_use b p k ≡ last_use b q k
last_use_alike b p q k same states =
    let used = any_final_view b.finals k || next_uses_view b.next k in
    ap (λ (x : ℕ). greater x (if used then p.states - 1 else 0)) (last_user_alike b p q k (size b) same)
    ∙ ap (λ (x : ℕ). greater (last_user b q k (size b)) (if used then x - 1 else 0)) states

gap_is : (v : Bool) → seen_gap v ≡ gap_after v
gap_is true = refl
gap_is false = refl

-- the state after a use, and the last state of one: no use, or one after the other
abbrev IsAfter : ℕ → ℕ → Type 0
IsAfter end last = ((end ≡ 0) × (last ≡ 0)) ⊎ (end ≡ suc last)

neither : (a b c d : ℕ) → a ≡ 0 → b ≡ 0 → c ≡ 0 → d ≡ 0 → (max c a ≡ 0) × (greater b d ≡ 0)
neither a b c d p q r t = (grind arith, grind arith)

first_alone : (a b c d : ℕ) → a ≡ suc b → c ≡ 0 → d ≡ 0 → max c a ≡ suc (greater b d)
first_alone a b c d p q r = grind arith

second_alone : (a b c d : ℕ) → a ≡ 0 → b ≡ 0 → c ≡ suc d → max c a ≡ suc (greater b d)
second_alone a b c d p q r = grind arith

the_later : (a b c d : ℕ) → a ≡ suc b → c ≡ suc d → max c a ≡ suc (greater b d)
the_later a b c d p q = grind arith

after_both : (a b c d : ℕ) → IsAfter a b → IsAfter c d → IsAfter (max c a) (greater b d)
after_both a b c d (inl x) (inl y) = inl (neither a b c d x.0 x.1 y.0 y.1)
after_both a b c d (inl x) (inr y) = inr (second_alone a b c d x.0 x.1 y)
after_both a b c d (inr x) (inl y) = inr (first_alone a b c d x y.0 y.1)
after_both a b c d (inr x) (inr y) = inr (the_later a b c d x y)

after_if : (u : Bool) (a b : ℕ) → a ≡ suc b → IsAfter (if u then a else 0) (if u then b else 0)
after_if true a b e = inr e
after_if false a b e = inl (refl, refl)

max-max : (x y z : ℕ) → max x (max y z) ≡ max y (max x z)
max-max x y z = grind arith

module _ (b : CodeBlock) (q : BlockPlan) (is : IsPlannedBlock b q) (order : IsInOrder b) where
  abbrev v : Block
  v = planned_view b

  abbrev nodes : List Node
  nodes = nodes_of b.operations

  abbrev p : Plan
  p = plan_view b q

  abbrev n : ℕ
  n = length b.operations

  abbrev s : ℕ → ℕ
  s = slice_index is.starts

  nodes_length : length nodes ≡ n
  nodes_length = length-nodes b.operations

  size_is : size v ≡ n
  size_is = size-view b.operations

  ordered : IsOrdered v
  ordered = view_ordered b order

  start_is : (k : ℕ) → k < n → p.start k ≡ s k
  start_is k l = ap (λ (r : List ℕ). get_or r k 0) is.starts_are ∙ get_or-take n is.starts k 0 l

  -- operation k, as both see it
  record Both (k : ℕ) : Type 0 where
    o : CodeOperation
    got : slice_get b.operations k ≡ Some o
    simple : seen_simple (operation_at v k).kind ≡ is_simple (kind_at nodes k)
    lasts : latency (operation_at v k).kind ≡ latency_at nodes k
    uses : (i : ℕ) → Uses (operation_at v k) i → i < k → UsesNode nodes k i
    global : (x : ℕ) (w : Bool) → target_of (operation_at v k).kind ≡ OfGlobal x w → kind_at nodes k ≡ Global x w
    array : (x : ℕ) (w : Bool) → target_of (operation_at v k).kind ≡ OfArray x w → kind_at nodes k ≡ Array x w
    tests : (i : ℕ) → (uses_in (operation_at v k).left i || uses_in (operation_at v k).right i) ≡ uses_value (node nodes k) i

  both : (k : ℕ) → k < n → Both k
  both k l =
      let w = get_there b.operations k l in
      let e = view_at b.operations k w.0 w.1 in
      let f = node_at b.operations k w.0 w.1 in
      record {
        o = w.0;
        got = w.1;
        simple = ap (λ (z : Operation). seen_simple z.kind) e ∙ (simple_is w.0 k ∙ sym (ap (λ (z : Node). is_simple z.kind) f));
        lasts = ap (λ (z : Operation). latency z.kind) e ∙ (latency_is w.0 k ∙ sym (ap (λ (z : Node). latency_of z.kind) f));
        uses = λ i u m. subst (λ (z : Node). UsesValue z i) (sym f) (uses_is w.0 k i (subst (λ (z : Operation). Uses z i) e u) m);
        global = λ x t h. ap (λ (z : Node). z.kind) f ∙ global_is w.0 k x t (sym (ap (λ (z : Operation). target_of z.kind) e) ∙ h);
        array = λ x t h. ap (λ (z : Node). z.kind) f ∙ array_is w.0 k x t (sym (ap (λ (z : Operation). target_of z.kind) e) ∙ h);
        tests = λ i.
            ap (λ (z : Operation). uses_in z.left i || uses_in z.right i) e
            ∙ (uses_test w.0 k i (needs_at b.operations k w.0 order.operations w.1) ∙ sym (ap (λ (z : Node). uses_value z i) f));
      }

  met_row : (i j gap : ℕ) → Row nodes (row i j gap) → s i + gap ≤ s j
  met_row i j gap r = let m : Meets s (row i j gap) = is.least.meets (row i j gap) r in omega (arith, ints, m)

  ends : (k : ℕ) → k < n → s k + latency_at nodes k ≤ s n
  ends k l = met_row k n (latency_at nodes k) (Ends (let e = nodes_length in omega arith) (sym nodes_length) refl)

  pub meets : MeetsTableView v p
  meets = record {
    ends = λ k h.
        let l : k < n = let e = size_is in omega arith in
        let x = both k l in
        let e = x.lasts in
        let f = start_is k l in
        let g = ends k l in
        let m = is.states in
        let top : s n ≤ max 1 (s n) = grind arith in
        omega (arith, e, f, g, m, top);
    chained = λ i j h u x y.
        let l : j < n = let e = size_is in omega arith in
        let before = ordered.earlier i j h u in
        let bi = both i (omega arith) in
        let bj = both j l in
        let g = met_row i j 0 (Chained (let e = nodes_length in omega arith) (bj.uses i u before) (sym bi.simple ∙ x) (sym bj.simple ∙ y) refl) in
        let e = start_is i (omega arith) in
        let f = start_is j l in
        omega arith;
    chained_twice = λ i j k h u w x y z.
        let l : k < n = let e = size_is in omega arith in
        let near = ordered.earlier j k h u in
        let far = ordered.earlier i j (omega arith) w in
        let bi = both i (omega arith) in
        let bj = both j (omega arith) in
        let bk = both k l in
        let g = met_row i k 1 (ChainedTwice j (let e = nodes_length in omega arith) (bk.uses j u near) (bj.uses i w far) (sym bi.simple ∙ x) (sym bj.simple ∙ y)
        (sym bk.simple ∙ z) refl) in
        let e = start_is i (omega arith) in
        let f = start_is k l in
        omega arith;
    kept = λ i j h u x y.
        let l : j < n = let e = size_is in omega arith in
        let before = ordered.earlier i j h u in
        let bi = both i (omega arith) in
        let bj = both j l in
        let g = met_row i j 1 (Kept (let e = nodes_length in omega arith) (bj.uses i u before) (sym bi.simple ∙ x) (sym bj.simple ∙ y) refl) in
        let e = start_is i (omega arith) in
        let f = start_is j l in
        omega arith;
    awaited = λ i j h u x.
        let l : j < n = let e = size_is in omega arith in
        let before = ordered.earlier i j h u in
        let bi = both i (omega arith) in
        let bj = both j l in
        let g = met_row i j (latency_at nodes i) (Awaited (let e = nodes_length in omega arith) (bj.uses i u before) (sym bi.simple ∙ x) refl) in
        let e = start_is i (omega arith) in
        let f = start_is j l in
        let d = bi.lasts in
        omega (arith, d, g, e, f);
    one_bank = λ j k x y z l h d f.
        let m : k < n = let e = size_is in omega arith in
        let bj = both j (omega arith) in
        let bk = both k m in
        let g = met_row j k (gap_after y) (OneGlobal x y z l (let e = nodes_length in omega arith) (bj.global x y d) (bk.global x z f) refl) in
        let c = gap_is y in
        let e = start_is j (omega arith) in
        let a = start_is k m in
        omega (arith, g, c, e, a);
    one_array = λ j k x y z l h d f w.
        let m : k < n = let e = size_is in omega arith in
        let bj = both j (omega arith) in
        let bk = both k m in
        let g = met_row j k 1 (OneArray x y z l (let e = nodes_length in omega arith) (bj.array x y d) (bk.array x z f) w refl) in
        let e = start_is j (omega arith) in
        let a = start_is k m in
        omega (arith, g, e, a);
  }

  last_is : (k : ℕ) → k < n → done nodes is.starts k ≡ suc (last_state v p k)
  last_is k l =
      let x = both k l in
      let e = x.lasts in
      let f = start_is k l in
      omega (arith, e, f)

  -- the operations that use a value
  abbrev user_end : ℕ → ℕ → ℕ
  user_end i zero = 0
  user_end i (suc m) = max (if uses_value (node nodes m) i then done nodes is.starts m else 0) (user_end i m)

  used_after : (i m : ℕ) → m ≤ n → IsAfter (user_end i m) (last_user v p i m)
  used_after i zero l = inl (refl, refl)
  used_after i (suc m) l =
      let x = both m (omega arith) in
      let one = after_if (uses_value (node nodes m) i) (done nodes is.starts m) (last_state v p m) (last_is m (omega arith)) in
      let same : (if uses_value (node nodes m) i then last_state v p m else 0)
      ≡ (if uses_in (operation_at v m).left i || uses_in (operation_at v m).right i then last_state v p m else 0) =
      ap (λ (z : Bool). if z then last_state v p m else 0) (sym (x.tests i)) in
      let one' = subst (λ (z : ℕ). IsAfter (if uses_value (node nodes m) i then done nodes is.starts m else 0) z) same one in
      after_both (user_end i m) (last_user v p i m) (if uses_value (node nodes m) i then done nodes is.starts m else 0) _ (used_after i m (omega arith)) one'

  needed_is : (i m : ℕ) → needed_to nodes is.starts (is_used_at_end b) i m ≡ max (if is_used_at_end b i then s (length nodes) else 0) (user_end i m)
  needed_is i zero = (let e : (if is_used_at_end b i then s (length nodes) else 0) ≡ max (if is_used_at_end b i then s (length nodes) else 0) 0 = grind arith in e)
  needed_is i (suc m) =
      ap (λ (z : ℕ). max (if uses_value (node nodes m) i then done nodes is.starts m else 0) z) (needed_is i m)
      ∙ max-max (if uses_value (node nodes m) i then done nodes is.starts m else 0) (if is_used_at_end b i then s (length nodes) else 0) (user_end i m)

  end_after : (i : ℕ) → i < n → s (length nodes) ≡ suc (p.states - 1)
  end_after i l =
      let g = ends i l in
      let one = at_least_one (kind_at nodes i) in
      let e : s (length nodes) ≡ s n = ap s nodes_length in
      let m = is.states in
      let some : 1 ≤ s n = omega (arith, g, one) in
      let all : max 1 (s n) ≡ s n = grind arith in
      omega (arith, e, m, some, all)

  end_test : (i : ℕ) → (any_final_view v.finals i || next_uses_view v.next i) ≡ is_used_at_end b i
  end_test i = ap (λ (z : Bool). z || next_uses_view v.next i) (finals_test b.finals i) ∙ ap (λ (z : Bool). any_final b.finals i || z) (next_test b.next i)

  life_after : (i : ℕ) → i < n → IsAfter (life_end nodes is.starts (is_used_at_end b) i) (last_use v p i)
  life_after i l =
      let m : n ≤ n = omega arith in
      let users : IsAfter (user_end i (length nodes)) (last_user v p i (size v)) =
      subst (λ (z : ℕ). IsAfter (user_end i z) (last_user v p i (size v))) (sym nodes_length) (subst (λ (z : ℕ). IsAfter (user_end i n) (last_user v p i z))
      (sym size_is) (used_after i n m)) in
      let at_end = after_if (is_used_at_end b i) (s (length nodes)) (p.states - 1) (end_after i l) in
      let same : (if is_used_at_end b i then p.states - 1 else 0) ≡ (if any_final_view v.finals i || next_uses_view v.next i then p.states - 1 else 0) =
      ap (λ (z : Bool). if z then p.states - 1 else 0) (sym (end_test i)) in
      let at_end' = subst (λ (z : ℕ). IsAfter (if is_used_at_end b i then s (length nodes) else 0) z) same at_end in
      let all = after_both (user_end i (length nodes)) (last_user v p i (size v)) (if is_used_at_end b i then s (length nodes) else 0) _ users at_end' in
      subst (λ (z : ℕ). IsAfter z (last_use v p i)) (sym (needed_is i (length nodes))) all

  until_is : (k : ℕ) → p.until k ≡ last_use v p k
  until_is k = last_use_alike v (starts_view q) p k (λ m. refl) refl

  -- a value lives exactly where its last use is past the last state of its operation
  lives_from : (i : ℕ) → i < n → last_state v p i < p.until i → Lives nodes is.starts (is_used_at_end b) i
  lives_from i l h = by_use (life_after i l)
    where
      by_use : IsAfter (life_end nodes is.starts (is_used_at_end b) i) (last_use v p i) → Lives nodes is.starts (is_used_at_end b) i
      by_use (inl x) = let e = until_is i in let z = x.1 in absurd (omega arith)
      by_use (inr x) = let e = until_is i in let d = last_is i l in omega arith

  lives_to : (i : ℕ) → i < n → Lives nodes is.starts (is_used_at_end b) i → (last_state v p i < p.until i) × (life_end nodes is.starts (is_used_at_end b) i ≡ suc (p.until i))
  lives_to i l h = by_use (life_after i l)
    where
      by_use : IsAfter (life_end nodes is.starts (is_used_at_end b) i) (last_use v p i) →
          (last_state v p i < p.until i) × (life_end nodes is.starts (is_used_at_end b) i ≡ suc (p.until i))
      by_use (inl x) = let z = x.0 in absurd (omega arith)
      by_use (inr x) = let e = until_is i in let d = last_is i l in (omega arith, omega arith)

  held_is : (k : ℕ) → p.register k ≡ register_at q.registers k
  held_is k = view_register_is q.registers k

  within : (k : ℕ) → k < n → k < length nodes
  within k l = let e = nodes_length in omega arith

  short : (k r : ℕ) → k < n → p.register k ≡ Some r → Lives nodes is.starts (is_used_at_end b) k
  short k r l e = by_life (cases_lt (done nodes is.starts k) (life_end nodes is.starts (is_used_at_end b) k))
    where
      by_life : (done nodes is.starts k < life_end nodes is.starts (is_used_at_end b) k) ⊎ (life_end nodes is.starts (is_used_at_end b) k ≤ done nodes is.starts k) →
          Lives nodes is.starts (is_used_at_end b) k
      by_life (inl h) = h
      by_life (inr h) =
          let none = is.registers.unkept k (within k l) (λ x. omega arith) in
          let both_ways : Some r ≡ None = sym e ∙ (held_is k ∙ none) in
          absurd cc

  -- two values in one register do not live together
  apart_if : (j k r : ℕ) → j < n → k < n → IsBefore (done nodes is.starts) j k → p.register j ≡ Some r → p.register k ≡ Some r →
      (p.until j ≤ last_state v p k) ⊎ (p.until k ≤ last_state v p j)
  apart_if j k r lj lk before e f = by_first (cases_lt (done nodes is.starts j) (life_end nodes is.starts (is_used_at_end b) k)) (cases_lt (done nodes is.starts k)
      (life_end nodes is.starts (is_used_at_end b) j))
    where
      same : number (register_at q.registers j) ≡ number (register_at q.registers k)
      same = ap number (sym (held_is j) ∙ (e ∙ (sym f ∙ held_is k)))

      by_first : (done nodes is.starts j < life_end nodes is.starts (is_used_at_end b) k) ⊎ (life_end nodes is.starts (is_used_at_end b) k ≤ done nodes is.starts j) →
          (done nodes is.starts k < life_end nodes is.starts (is_used_at_end b) j) ⊎ (life_end nodes is.starts (is_used_at_end b) j ≤ done nodes is.starts k) →
          (p.until j ≤ last_state v p k) ⊎ (p.until k ≤ last_state v p j)
      by_first (inl x) (inl y) =
          let t : LiveTogether nodes is.starts (is_used_at_end b) j k = (short j r lj e, short k r lk f, x, y) in
          absurd (is.registers.packed.apart j k (within j lj) (within k lk) before t same)
      by_first (inr x) y = let t = lives_to k lk (short k r lk f) in let d = last_is j lj in inr (omega (arith, t.1, d, x))
      by_first (inl x) (inr y) = let t = lives_to j lj (short j r lj e) in let d = last_is k lk in inl (omega (arith, t.1, d, y))

  apart : (j k r : ℕ) → j < n → k < n → j ≢ k → p.register j ≡ Some r → p.register k ≡ Some r → (p.until j ≤ last_state v p k) ⊎ (p.until k ≤ last_state v p j)
  apart j k r lj lk ne e f = by_order (cases_lt (done nodes is.starts j) (done nodes is.starts k)) (cases_lt (done nodes is.starts k) (done nodes is.starts j)) (cases_lt j k)
    where
      by_order : (done nodes is.starts j < done nodes is.starts k) ⊎ (done nodes is.starts k ≤ done nodes is.starts j) →
          (done nodes is.starts k < done nodes is.starts j) ⊎ (done nodes is.starts j ≤ done nodes is.starts k) →
          (j < k) ⊎ (k ≤ j) → (p.until j ≤ last_state v p k) ⊎ (p.until k ≤ last_state v p j)
      by_order (inl x) y z = apart_if j k r lj lk (inl x) e f
      by_order (inr x) (inl y) z = ⊎_swap (apart_if k j r lk lj (inl y) f e)
      by_order (inr x) (inr y) (inl z) = apart_if j k r lj lk (inr (omega arith, z)) e f
      by_order (inr x) (inr y) (inr z) = ⊎_swap (apart_if k j r lk lj (inr (omega arith, omega arith)) f e)

  packed : IsPacked v p
  packed = record {
    until = λ k h. until_is k;
    has = λ k h l.
        let m : k < n = let e = size_is in omega arith in
        let w = is.registers.kept k (within k m) (lives_from k m l) in
        (w.0, held_is k ∙ w.1);
    short = λ k r h e. (let m : k < n = (let z = size_is in omega arith) in let t = lives_to k m (short k r m e) in t.0);
    apart = λ j k r h l ne e f. apart j k r (let z = size_is in omega arith) (let z = size_is in omega arith) ne e f;
  }

  keeps : KeepsOrders v p
  keeps = keeps_orders v p ordered meets packed

  -- an operation that starts no earlier than another one on its unit waits for it
  unit_free : (j k : ℕ) → j < n → k < n → IsBefore s j k → s j ≤ s k → same_kind (kind_at nodes j) (kind_at nodes k) ≡ true → slice_index q.units j ≡ slice_index q.units k →
      last_state v p j < slice_index q.starts k
  unit_free j k lj lk first early same e = by_order (cases_lt (s k) (done nodes is.starts j))
    where
      by_order : (s k < done nodes is.starts j) ⊎ (done nodes is.starts j ≤ s k) → last_state v p j < slice_index q.starts k
      by_order (inl x) =
          let d = last_is k lk in
          let a = start_is k lk in
          let grows : p.start k ≤ last_state v p k = omega arith in
          let works : s j < done nodes is.starts k = omega (arith, d, a, grows, early) in
          absurd (is.units.bound.apart j k (within j lj) (within k lk) first (same, works, x) e)
      by_order (inr x) =
          let d = last_is j lj in
          let a = start_is k lk in
          omega (arith, d, a, x)

  pub units_apart : AreUnitsApart b q
  units_apart j k before below same e = by_starts (cases_lt (s j) (s k)) (cases_lt (s k) (s j))
    where
      lj : j < n
      lj = omega arith

      by_starts : (s j < s k) ⊎ (s k ≤ s j) → (s k < s j) ⊎ (s j ≤ s k) → (last_state v p j < slice_index q.starts k) ⊎ (last_state v p k < slice_index q.starts j)
      by_starts (inl x) y = inl (unit_free j k lj below (inl x) (omega arith) same e)
      by_starts (inr x) (inl y) = inr (unit_free k j below lj (inl y) x (same_back (kind_at nodes j) (kind_at nodes k) same) (sym e))
      by_starts (inr x) (inr y) = inl (unit_free j k lj below (inr (omega arith, before)) y same e)

pub plan_keeps_orders : PlanKeepsOrders
plan_keeps_orders b q is order = keeps b q is order
