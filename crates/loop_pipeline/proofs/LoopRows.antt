-- The rows one after another are rows of the table, and have its solutions.
use Rattle.std.proofs.Common.{◌≡◌, ℕ, suc, zero, ◌+◌, ◌*◌, ◌^◌, ◌<◌, ◌≤◌, List, [], ◌∷◌, ◌++◌, length, length-append, Bool, true, false}
use Rattle.std.proofs.Common.{ℤ, pos, negsuc, Option, Some, None}
use Rattle.std.proofs.Common.{take, refl, ap, subst, sym, ◌⊎◌, inl, inr, ⊎_elim, arith, nat_lt, ◌||◌, if◌then◌else◌}
use Rattle.std.specs.Prelude.{◌-ℤ◌, slice_index_or}
use Rattle.std.specs.List.{All, Contains}
use Rattle.std.proofs.lemmas.Bool.{cases_eq, cases_lt}
use Rattle.std.proofs.lemmas.Int.{ints}
use Rattle.std.proofs.lemmas.List.Elements.{Contains-append_left, Contains-append_right, Contains-append_cases, All-contains, All-contains_itself}
use Rattle.lists.proofs.Places.{in_none, in_one}
use Rattle.schedule_sdc.specs.declared.constraint.Constraint.{Constraint}
use Rattle.schedule_sdc.specs.Solution.{Meets, IsSolution, IsWithin, FitsIfSolvable, rise_of, gap_sum}
use Rattle.schedule_sdc.proofs.GapSums.{sums_fit}
use Rattle.op_graph.specs.declared.node.Kind.{Kind}
use Rattle.op_graph.specs.declared.node.Kind.TheVariants.{Simple, Multiply, Divide, Global, Array}
use Rattle.op_graph.specs.declared.node.Node.{Node}
use Rattle.op_graph.specs.Graph.{kind_at, latency_of, latency_at, UseEarlier}
use Rattle.op_graph.specs.Listed.{row}
use Rattle.op_graph.specs.Reduced.{write_at, first_from, last_below}
use Rattle.op_graph.specs.Table.{Row, Ends, Chained, ChainedTwice, Kept, Awaited, OneGlobal, OneArray, gap_after, MeetsTable, AreRows}
use Rattle.op_graph.specs.Table.{HasItsSolutions as HasBlockSolutions}
use Rattle.op_graph.proofs.Neighbours.{row_within, last_is}
use Rattle.loop_pipeline.proofs.RowLists.{is_one, below_has, of_below, length-below}
use Rattle.loop_pipeline.proofs.FirstAndLast.{first_is, has_last, has_first, HasLast, HasFirst, write_kind, is_write}
use Rattle.loop_pipeline.specs.declared.table.Carried.{Carried}
use Rattle.loop_pipeline.specs.Table.{AreCarried, LoopRow, Within, Begins, Tested, Follows, Carries, Shares, MeetsLoop, AreLoopRows, HasItsSolutions}
use Rattle.loop_pipeline.specs.Listed.{link, begin_row, begin_rows, tested_row, tested_rows, rows_of, carried_rows}
use Rattle.loop_pipeline.specs.Listed.{to_first, from_last, shared_at, shared_row, shared_rows}

link_path : (c : Constraint) (from to : ℕ) (gap : ℤ) → c.from ≡ from → c.to ≡ to → c.gap ≡ gap → c ≡ link from to gap
link_path c from to gap p q r = λ i. record { from = p i; to = q i; gap = r i }

-- ---- gaps

-- a number less another one rises no more than the number
rise_below : (z : ℤ) (a b : ℕ) → z ≡ pos a -ℤ pos b → rise_of z ≤ a
rise_below (pos g) a b e = omega (arith, ints, e)
rise_below (negsuc g) a b e = omega arith

at_most_eight : (k : Kind) → latency_of k ≤ 8
at_most_eight Simple = omega arith
at_most_eight (Multiply w) = omega arith
at_most_eight (Divide w s) = omega arith
at_most_eight (Global x true) = omega arith
at_most_eight (Global x false) = omega arith
at_most_eight (Array x w) = omega arith

gap_at_most : (v : Bool) → gap_after v ≤ 8
gap_at_most true = omega arith
gap_at_most false = omega arith

rise_is : (z : ℤ) (g m : ℕ) → z ≡ pos g → g ≤ m → rise_of z ≤ m
rise_is z g m e l = rw e l

row_rise : (nodes : List Node) (c : Constraint) → Row nodes c → rise_of c.gap ≤ 8
row_rise nodes c (Ends l t g) = rise_is c.gap _ 8 g (at_most_eight (kind_at nodes c.from))
row_rise nodes c (Chained l u si sj g) = rise_is c.gap 0 8 g (omega arith)
row_rise nodes c (ChainedTwice j l u v sh sj st g) = rise_is c.gap 1 8 g (omega arith)
row_rise nodes c (Kept l u si cj g) = rise_is c.gap 1 8 g (omega arith)
row_rise nodes c (Awaited l u ci g) = rise_is c.gap _ 8 g (at_most_eight (kind_at nodes c.from))
row_rise nodes c (OneGlobal x v w lt l p q g) = rise_is c.gap _ 8 g (gap_at_most v)
row_rise nodes c (OneArray x v w lt l p q t g) = rise_is c.gap 1 8 g (omega arith)

-- rows of so small rises
sum_at_most : (m : ℕ) (list : List Constraint) → ((c : Constraint) → Contains list c → rise_of c.gap ≤ m) → gap_sum list ≤ m * length list
sum_at_most m [] each = omega arith
sum_at_most m (c ∷ list) each =
    let h = sum_at_most m list (λ d k. each d (Contains-append_right (c ∷ []) list d k)) in
    let e = each c (0, omega arith, refl) in
    let n : m * suc (length list) ≡ m * length list + m = grind arith in
    omega (arith, h, e, n)

-- the rows of one use more
pub carried_more : (nodes : List Node) (interval : ℕ) (ks : List Carried) (i : ℕ) (d : Carried) → i < length ks →
    carried_rows nodes interval (take (i + 1) ks) ≡ carried_rows nodes interval (take i ks) ++ rows_of nodes interval (slice_index_or ks i d)
carried_more nodes interval [] i d lt = absurd (omega arith)
carried_more nodes interval (k ∷ ks) zero d lt = refl
carried_more nodes interval (k ∷ ks) (suc i) d lt =
    let h = carried_more nodes interval ks i d (omega arith) in
    let e : suc i + 1 ≡ suc (i + 1) = omega arith in
    rw e (ap (λ z. rows_of nodes interval k ++ z) h)

or_true : (w : Bool) → (w || true) ≡ true
or_true true = refl
or_true false = refl

module _ (nodes : List Node) (comparison : ℕ) (carried : List Carried) (interval : ℕ) where
  pub row_inside : UseEarlier nodes → comparison < length nodes → AreCarried (length nodes) carried →
      (c : Constraint) → LoopRow nodes comparison carried interval c → IsWithin (length nodes + 2) c
  row_inside earlier l each c (Within r) = let h = row_within nodes earlier c r in (omega (arith, h.0), omega (arith, h.1))
  row_inside earlier l each c (Begins f t g) = (omega arith, omega arith)
  row_inside earlier l each c (Tested f a t g) = (omega arith, omega arith)
  row_inside earlier l each c (Follows f t g) = (omega arith, omega arith)
  row_inside earlier l each c (Carries k h f t g) = let is = each.each k h in (omega (arith, is.from), omega (arith, is.to))
  row_inside earlier l each c (Shares x v w f t p q o g) = (omega arith, omega arith)

  rise_of_row : 1 ≤ interval → (c : Constraint) → LoopRow nodes comparison carried interval c → rise_of c.gap ≤ 8
  rise_of_row some c (Within r) = row_rise nodes c r
  rise_of_row some c (Begins f t g) = rise_is c.gap 0 8 g (omega arith)
  rise_of_row some c (Tested f a t g) = rise_is c.gap 1 8 g (omega arith)
  rise_of_row some c (Follows f t g) = let h = rise_below c.gap 1 interval g in omega (arith, h)
  rise_of_row some c (Carries k m f t g) =
      let h = rise_below c.gap (latency_at nodes k.from) (k.turns * interval) g in
      let e = at_most_eight (kind_at nodes k.from) in
      omega (arith, h, e)
  rise_of_row some c (Shares x v w f t p q o g) = let h = rise_below c.gap 1 interval g in omega (arith, h)

module _ (nodes : List Node) (comparison : ℕ) (carried : List Carried) (interval : ℕ) (inside : comparison < length nodes) where
  abbrev n : ℕ
  n = length nodes

  abbrev back : ℤ
  back = pos 1 -ℤ pos interval

  abbrev IsRow : Constraint → Type 0
  IsRow c = LoopRow nodes comparison carried interval c

  one_row : (x c : Constraint) → IsRow x → Contains (x ∷ []) c → IsRow c
  one_row x c r h = subst (λ (d : Constraint). IsRow d) (in_one x c h) r

  -- ---- each row listed is a row of the table

  begins_sound : (c : Constraint) → Contains (begin_rows n (comparison + 1)) c → IsRow c
  begins_sound =
      of_below IsRow (begin_row n) (comparison + 1) (λ j l c h. one_row (link (n + 1) j (pos 0)) c (Begins refl (omega arith) refl) h)

  tested_if : (b : Bool) (k : ℕ) (c : Constraint) → nat_lt comparison k ≡ b → k < n → Contains (if b then link comparison k (pos 1) ∷ [] else []) c → IsRow c
  tested_if true k c e l h = one_row (link comparison k (pos 1)) c (Tested refl (grind arith) l refl) h
  tested_if false k c e l h = absurd (in_none c h)

  tested_sound : (c : Constraint) → Contains (tested_rows comparison n) c → IsRow c
  tested_sound = of_below IsRow (tested_row comparison) n (λ j l c h. tested_if (nat_lt comparison j) j c refl l h)

  carried_sound : (ks : List Carried) (c : Constraint) → ((k : Carried) → Contains ks k → Contains carried k) → Contains (carried_rows nodes interval ks) c →
      IsRow c
  carried_sound [] c among h = absurd (in_none c h)
  carried_sound (k ∷ ks) c among h =
      by_part (carried_sound ks c (λ j m. among j (Contains-append_right (k ∷ []) ks j m)))
      (Contains-append_cases (rows_of nodes interval k) (carried_rows nodes interval ks) c h)
    where
      by_part : (Contains (carried_rows nodes interval ks) c → IsRow c) →
          (Contains (rows_of nodes interval k) c) ⊎ (Contains (carried_rows nodes interval ks) c) → IsRow c
      by_part rest (inl x) = one_row _ c (Carries k (among k (0, omega arith, refl)) refl refl refl) x
      by_part rest (inr x) = rest x

  first_sound : (j x : ℕ) (w : Bool) (c : Constraint) → j < n → kind_at nodes j ≡ Array x w →
      (o : Option ℕ) → first_from (write_at nodes x) 0 n ≡ o → Contains (to_first back j o) c → IsRow c
  first_sound j x w c l e None f h = absurd (in_none c h)
  first_sound j x w c l e (Some i) f h =
      let is = first_is (write_at nodes x) 0 n i f in
      one_row (link j i back) c (Shares x w true l (omega (arith, is.1)) e (write_kind x (kind_at nodes i) is.2) (or_true w) refl) h

  last_sound : (j x : ℕ) (w : Bool) (c : Constraint) → j < n → kind_at nodes j ≡ Array x w →
      (o : Option ℕ) → last_below (write_at nodes x) n ≡ o → Contains (from_last back j o) c → IsRow c
  last_sound j x w c l e None f h = absurd (in_none c h)
  last_sound j x w c l e (Some i) f h =
      let is = last_is (write_at nodes x) n i f in
      one_row (link i j back) c (Shares x true w is.0 l (write_kind x (kind_at nodes i) is.1) e refl refl) h

  shared_at_sound : (j : ℕ) (k : Kind) (c : Constraint) → j < n → kind_at nodes j ≡ k → Contains (shared_at nodes back j k) c → IsRow c
  shared_at_sound j (Array x w) c l e h =
      by_part (Contains-append_cases (to_first back j (first_from (write_at nodes x) 0 n)) (from_last back j (last_below (write_at nodes x) n)) c h)
    where
      by_part : (Contains (to_first back j (first_from (write_at nodes x) 0 n)) c) ⊎ (Contains (from_last back j (last_below (write_at nodes x) n)) c) → IsRow c
      by_part (inl y) = first_sound j x w c l e (first_from (write_at nodes x) 0 n) refl y
      by_part (inr y) = last_sound j x w c l e (last_below (write_at nodes x) n) refl y
  shared_at_sound j k c l e h = absurd (in_none c h)

  shared_sound : (c : Constraint) → Contains (shared_rows nodes back n) c → IsRow c
  shared_sound = of_below IsRow (shared_row nodes back) n (λ j l c h. shared_at_sound j (kind_at nodes j) c l refl h)

  -- ---- the list

  module _ (inner : List Constraint) where
    abbrev with_begins : List Constraint
    with_begins = inner ++ begin_rows n (comparison + 1)

    abbrev with_tested : List Constraint
    with_tested = with_begins ++ tested_rows comparison n

    abbrev with_follows : List Constraint
    with_follows = with_tested ++ link comparison (n + 1) back ∷ []

    abbrev with_carried : List Constraint
    with_carried = with_follows ++ carried_rows nodes interval carried

    abbrev pub all_rows : List Constraint
    all_rows = with_carried ++ shared_rows nodes back n

    sound : AreRows nodes inner → (c : Constraint) → Contains all_rows c → IsRow c
    sound are c h = last (Contains-append_cases with_carried (shared_rows nodes back n) c h)
      where
        first : (Contains inner c) ⊎ (Contains (begin_rows n (comparison + 1)) c) → IsRow c
        first (inl x) = Within (are c x)
        first (inr x) = begins_sound c x

        second : (Contains with_begins c) ⊎ (Contains (tested_rows comparison n) c) → IsRow c
        second (inl x) = first (Contains-append_cases inner (begin_rows n (comparison + 1)) c x)
        second (inr x) = tested_sound c x

        third : (Contains with_tested c) ⊎ (Contains (link comparison (n + 1) back ∷ []) c) → IsRow c
        third (inl x) = second (Contains-append_cases with_begins (tested_rows comparison n) c x)
        third (inr x) = one_row (link comparison (n + 1) back) c (Follows refl refl refl) x

        fourth : (Contains with_follows c) ⊎ (Contains (carried_rows nodes interval carried) c) → IsRow c
        fourth (inl x) = third (Contains-append_cases with_tested (link comparison (n + 1) back ∷ []) c x)
        fourth (inr x) = carried_sound carried c (λ k m. m) x

        last : (Contains with_carried c) ⊎ (Contains (shared_rows nodes back n) c) → IsRow c
        last (inl x) = fourth (Contains-append_cases with_follows (carried_rows nodes interval carried) c x)
        last (inr x) = shared_sound c x

    in_follows : (c : Constraint) → Contains with_follows c → Contains all_rows c
    in_follows c h =
        Contains-append_left with_carried (shared_rows nodes back n) c (Contains-append_left with_follows (carried_rows nodes interval carried) c h)

    in_tested : (c : Constraint) → Contains with_tested c → Contains all_rows c
    in_tested c h = in_follows c (Contains-append_left with_tested (link comparison (n + 1) back ∷ []) c h)

    in_begins : (c : Constraint) → Contains with_begins c → Contains all_rows c
    in_begins c h = in_tested c (Contains-append_left with_begins (tested_rows comparison n) c h)

    has_begin : (j : ℕ) → j < comparison + 1 → Contains all_rows (link (n + 1) j (pos 0))
    has_begin j l =
        in_begins _ (Contains-append_right inner (begin_rows n (comparison + 1)) _ (below_has (begin_row n) (comparison + 1) j _ l (is_one _ _ refl)))

    has_tested : (j : ℕ) → comparison < j → j < n → Contains all_rows (link comparison j (pos 1))
    has_tested j a l =
        let t : nat_lt comparison j ≡ true = grind arith in
        let here : Contains (tested_row comparison j) (link comparison j (pos 1)) = rw t (is_one _ _ refl) in
        in_tested _ (Contains-append_right with_begins (tested_rows comparison n) _ (below_has (tested_row comparison) n j _ l here))

    has_follows : Contains all_rows (link comparison (n + 1) back)
    has_follows = in_follows _ (Contains-append_right with_tested (link comparison (n + 1) back ∷ []) _ (is_one _ _ refl))

    has_shared : (j : ℕ) (c : Constraint) → j < n → Contains (shared_row nodes back j) c → Contains all_rows c
    has_shared j c l h = Contains-append_right with_carried (shared_rows nodes back n) c (below_has (shared_row nodes back) n j c l h)

    to_write : (x j i : ℕ) (w : Bool) → j < n → kind_at nodes j ≡ Array x w → first_from (write_at nodes x) 0 n ≡ Some i → Contains all_rows (link j i back)
    to_write x j i w l e f =
        let one : Contains (to_first back j (first_from (write_at nodes x) 0 n)) (link j i back) =
        subst (λ (o : Option ℕ). Contains (to_first back j o) (link j i back)) (sym f) (is_one _ _ refl) in
        let here : Contains (shared_at nodes back j (Array x w)) (link j i back) =
        Contains-append_left (to_first back j (first_from (write_at nodes x) 0 n)) (from_last back j (last_below (write_at nodes x) n)) _ one in
        has_shared j _ l (subst (λ (k : Kind). Contains (shared_at nodes back j k) (link j i back)) (sym e) here)

    from_write : (x j i : ℕ) (w : Bool) → j < n → kind_at nodes j ≡ Array x w → last_below (write_at nodes x) n ≡ Some i → Contains all_rows (link i j back)
    from_write x j i w l e f =
        let one : Contains (from_last back j (last_below (write_at nodes x) n)) (link i j back) =
        subst (λ (o : Option ℕ). Contains (from_last back j o) (link i j back)) (sym f) (is_one _ _ refl) in
        let here : Contains (shared_at nodes back j (Array x w)) (link i j back) =
        Contains-append_right (to_first back j (first_from (write_at nodes x) 0 n)) (from_last back j (last_below (write_at nodes x) n)) _ one in
        has_shared j _ l (subst (λ (k : Kind). Contains (shared_at nodes back j k) (link i j back)) (sym e) here)

    carried_have : (ks : List Carried) (i : ℕ) (k : Carried) (c : Constraint) → i < length ks → slice_index_or ks i k ≡ k →
        c ≡ link k.from k.to (pos (latency_at nodes k.from) -ℤ pos (k.turns * interval)) → Contains (carried_rows nodes interval ks) c
    carried_have [] i k c l h e = absurd (omega arith)
    carried_have (j ∷ ks) zero k c l h e =
        let here : Contains (rows_of nodes interval j) c = subst (λ (z : Carried). Contains (rows_of nodes interval z) c) (sym h) (is_one _ c e) in
        Contains-append_left (rows_of nodes interval j) (carried_rows nodes interval ks) c here
    carried_have (j ∷ ks) (suc i) k c l h e =
        Contains-append_right (rows_of nodes interval j) (carried_rows nodes interval ks) c (carried_have ks i k c (omega arith) h e)

    -- ---- starts that meet the list

    module _ (start : ℕ → ℕ) (solves : IsSolution all_rows start) where
      met : (c : Constraint) → Contains all_rows c → Meets start c
      met c h = All-contains (Meets start) all_rows c solves h

      met_link : (c : Constraint) (from to : ℕ) (gap : ℤ) → c.from ≡ from → c.to ≡ to → c.gap ≡ gap → Contains all_rows (link from to gap) → Meets start c
      met_link c from to gap p q r h = subst (λ (d : Constraint). Meets start d) (sym (link_path c from to gap p q r)) (met (link from to gap) h)

      inner_solved : IsSolution inner start
      inner_solved = λ k d l. met _ (in_begins _ (Contains-append_left inner (begin_rows n (comparison + 1)) _ (All-contains_itself inner k d l)))

      module _ (table : MeetsTable nodes start) where
        writes_follow : (x i j : ℕ) → i < j → j < n → kind_at nodes i ≡ Array x true → kind_at nodes j ≡ Array x true → start i + 1 ≤ start j
        writes_follow x i j lt l p q = let m = table (row i j 1) (OneArray x true true lt l p q refl refl) in omega (arith, ints, m)

        -- a write, by way of the last one
        after_write : (x i j : ℕ) (w : Bool) → i < n → j < n → kind_at nodes i ≡ Array x true → kind_at nodes j ≡ Array x w → start i + 1 ≤ start j + interval
        after_write x i j w l m p q =
            let h = has_last (write_at nodes x) n i l (is_write x (kind_at nodes i) p) in
            let b = met (link h.0 j back) (from_write x j h.0 w m q h.1) in
            let near : start h.0 + 1 ≤ start j + interval = omega (arith, ints, b) in
            by_place h near (cases_eq i h.0)
          where
            by_place : (h : HasLast (write_at nodes x) n i (last_below (write_at nodes x) n)) → start h.0 + 1 ≤ start j + interval → (i ≡ h.0) ⊎ (i ≡ h.0 → ⊥) →
                start i + 1 ≤ start j + interval
            by_place h near (inl same) = subst (λ (z : ℕ). start z + 1 ≤ start j + interval) (sym same) near
            by_place h near (inr other) =
                let far = writes_follow x i h.0 (omega (arith, h.2, other)) h.3 p (write_kind x (kind_at nodes h.0) h.4) in
                omega (arith, near, far)

        -- any access and a write, by way of the first one
        before_write : (x i j : ℕ) (v : Bool) → i < n → j < n → kind_at nodes i ≡ Array x v → kind_at nodes j ≡ Array x true → start i + 1 ≤ start j + interval
        before_write x i j v l m p q =
            let h = has_first (write_at nodes x) 0 n j (omega arith) (omega arith) (is_write x (kind_at nodes j) q) in
            let b = met (link i h.0 back) (to_write x i h.0 v l p h.1) in
            let near : start i + 1 ≤ start h.0 + interval = omega (arith, ints, b) in
            by_place h near (cases_eq h.0 j)
          where
            by_place : (h : HasFirst (write_at nodes x) 0 n j (first_from (write_at nodes x) 0 n)) → start i + 1 ≤ start h.0 + interval →
                (h.0 ≡ j) ⊎ (h.0 ≡ j → ⊥) →
                start i + 1 ≤ start j + interval
            by_place h near (inl same) = subst (λ (z : ℕ). start i + 1 ≤ start z + interval) same near
            by_place h near (inr other) =
                let far = writes_follow x h.0 j (omega (arith, h.3, other)) m (write_kind x (kind_at nodes h.0) h.4) q in
                omega (arith, near, far)

        in_turn : (v w : Bool) (x i j : ℕ) → i < n → j < n → kind_at nodes i ≡ Array x v → kind_at nodes j ≡ Array x w → (v || w) ≡ true →
            start i + 1 ≤ start j + interval
        in_turn true w x i j l m p q o = after_write x i j w l m p q
        in_turn false true x i j l m p q o = before_write x i j false l m p q
        in_turn false false x i j l m p q o = absurd cc

        begins : (j : ℕ) → j < n → start (n + 1) ≤ start j
        begins j l = ⊎_elim
            (λ low. (let m = met (link (n + 1) j (pos 0)) (has_begin j low) in omega (arith, ints, m)))
            (λ high. (let a = met (link (n + 1) comparison (pos 0)) (has_begin comparison (omega arith)) in
            let b = met (link comparison j (pos 1)) (has_tested j (omega (arith, high)) l) in
            omega (arith, ints, a, b)))
            (cases_lt j (comparison + 1))

        meets : MeetsLoop nodes comparison carried interval start
        meets c (Within r) = table c r
        meets c (Begins f l g) =
            let b = begins c.to l in
            let e : start c.from ≡ start (n + 1) = ap start f in
            rw g (omega (arith, ints, b, e))
        meets c (Tested f a l g) = met_link c comparison c.to (pos 1) f refl g (has_tested c.to a l)
        meets c (Follows f t g) = met_link c comparison (n + 1) back f t g has_follows
        meets c (Carries k h f t g) =
            met_link c k.from k.to _ f t g (Contains-append_left with_carried (shared_rows nodes back n) _
            (Contains-append_right with_follows (carried_rows nodes interval carried) _ (carried_have carried h.0 k _ h.1 h.2 refl)))
        meets c (Shares x v w l m p q o g) =
            let b = in_turn v w x c.from c.to l m p q o in
            rw g (omega (arith, ints, b))

    pub are_rows : (list : List Constraint) → list ≡ all_rows → AreRows nodes inner → AreLoopRows nodes comparison carried interval list
    are_rows list e are = λ c h. sound are c (subst (λ (l : List Constraint). Contains l c) e h)

    pub same_solutions : (list : List Constraint) → list ≡ all_rows → AreRows nodes inner → HasBlockSolutions nodes inner →
        HasItsSolutions nodes comparison carried interval list
    same_solutions list e are same = λ t. (
      λ solves. (let all = subst (λ (l : List Constraint). IsSolution l t) e solves in meets t all ((same t).0 (inner_solved t all))),
      λ m. subst (λ (l : List Constraint). IsSolution l t) (sym e) (λ k d l. m _ (sound are _ (All-contains_itself all_rows k d l))),
    )

    -- ---- its places, its length, and the sum of its gaps

    pub places_within : (list : List Constraint) → list ≡ all_rows → AreRows nodes inner → UseEarlier nodes → AreCarried n carried → All (IsWithin (n + 2)) list
    places_within list e are earlier each =
        subst (λ (z : List Constraint). All (IsWithin (n + 2)) z) (sym e)
        (λ k d m. row_inside nodes comparison carried interval earlier inside each _ (sound are _ (All-contains_itself all_rows k d m)))

    one_if : (b : Bool) (x : Constraint) → length (if b then x ∷ [] else []) ≤ 1
    one_if true x = omega arith
    one_if false x = omega arith

    carried_length : (ks : List Carried) → length (carried_rows nodes interval ks) ≡ length ks
    carried_length [] = refl
    carried_length (k ∷ ks) =
        let h = carried_length ks in
        omega (arith, h, length-append (rows_of nodes interval k) (carried_rows nodes interval ks))

    to_first_few : (j : ℕ) (o : Option ℕ) → length (to_first back j o) ≤ 1
    to_first_few j None = omega arith
    to_first_few j (Some i) = omega arith

    from_last_few : (j : ℕ) (o : Option ℕ) → length (from_last back j o) ≤ 1
    from_last_few j None = omega arith
    from_last_few j (Some i) = omega arith

    shared_few : (j : ℕ) (k : Kind) → length (shared_at nodes back j k) ≤ 2
    shared_few j (Array x w) =
        let a = to_first_few j (first_from (write_at nodes x) 0 n) in
        let b = from_last_few j (last_below (write_at nodes x) n) in
        omega (arith, a, b, length-append (to_first back j (first_from (write_at nodes x) 0 n)) (from_last back j (last_below (write_at nodes x) n)))
    shared_few j k = omega arith

    few_rows : length inner ≤ 10 * n → AreCarried n carried → length all_rows ≤ 16 * n + 1
    few_rows few each =
        let c = each.few in
        let s = length-append with_carried (shared_rows nodes back n) in
        let a = length-append inner (begin_rows n (comparison + 1)) in
        let b = length-append with_begins (tested_rows comparison n) in
        let d = length-append with_tested (link comparison (n + 1) back ∷ []) in
        let f = length-append with_follows (carried_rows nodes interval carried) in
        let bl = length-below (begin_row n) 1 (comparison + 1) (λ j. omega arith) in
        let tl = length-below (tested_row comparison) 1 n (λ j. one_if (nat_lt comparison j) (link comparison j (pos 1))) in
        let cl = carried_length carried in
        let sl = length-below (shared_row nodes back) 2 n (λ j. shared_few j (kind_at nodes j)) in
        omega (arith, few, c, s, a, b, d, f, bl, tl, cl, sl)

    pub few : (list : List Constraint) → list ≡ all_rows → length inner ≤ 10 * n → AreCarried n carried → length list ≤ 16 * n + 1
    few list e h each = rw e (few_rows h each)

    pub fits : (list : List Constraint) → list ≡ all_rows → AreRows nodes inner → length inner ≤ 10 * n → 1 ≤ interval → n < 2 ^ 32 → AreCarried n carried →
        FitsIfSolvable (n + 2) list
    fits list e are h some size each = subst (λ (z : List Constraint). FitsIfSolvable (n + 2) z) (sym e) (sums_fit (n + 2) all_rows small)
      where
        small : gap_sum all_rows < 2 ^ 64
        small =
            let f = sum_at_most 8 all_rows (λ c k. rise_of_row nodes comparison carried interval some c (sound are c k)) in
            let l = few_rows h each in
            omega (arith, f, l)
