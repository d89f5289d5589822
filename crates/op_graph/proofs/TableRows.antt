-- The rows one after another are the rows of the table.
use Rattle.std.proofs.Common.{◌≡◌, ℕ, suc, zero, ◌<◌, ◌≤◌, List, [], ◌∷◌, ◌++◌, length, Bool, true, false, Option, Some}
use Rattle.std.proofs.Common.{None, refl, ap, subst, sym, ◌∙◌, ◌⊎◌, inl, inr, arith, pos, nat_eq, ◌&&◌, ◌||◌, if◌then◌else◌}
use Rattle.std.specs.List.{Contains}
use Rattle.std.proofs.lemmas.Bool.{cases_eq}
use Rattle.std.proofs.lemmas.List.Elements.{Contains-append_left, Contains-append_right, Contains-append_cases}
use Rattle.lists.proofs.Places.{in_none, in_one}
use Rattle.schedule_sdc.specs.declared.constraint.Constraint.{Constraint}
use Rattle.op_graph.specs.declared.node.Kind.{Kind}
use Rattle.op_graph.specs.declared.node.Kind.TheVariants.{Global, Array}
use Rattle.op_graph.specs.declared.node.Node.{Node}
use Rattle.op_graph.specs.Graph.{node, kind_at, Uses, is_simple, latency_at}
use Rattle.op_graph.specs.Table.{IsTable, Row, Ends, Chained, ChainedTwice, Kept, Awaited, OneGlobal, OneArray, gap_after}
use Rattle.op_graph.specs.Listed.{row, far_rows, use_rows, operand_rows, rows_of_uses, all_uses, order_gap, gap_rows, order_rows, all_orders, end_row, end_rows}
use Rattle.op_graph.proofs.AppendedRows.{is_one, row_path, below_has, of_below}

module _ (nodes : List Node) where
  abbrev IsRow : Constraint → Type 0
  IsRow c = Row nodes c

  pub one_row : (x c : Constraint) → IsRow x → Contains (x ∷ []) c → IsRow c
  one_row x c r h = subst (λ (d : Constraint). IsRow d) (in_one x c h) r

  -- each row listed is a row of the table

  far_if : (b : Bool) (i j h : ℕ) (c : Constraint) → is_simple (kind_at nodes h) ≡ b → j < length nodes → Uses nodes j i → Uses nodes i h → is_simple (kind_at nodes i) ≡ true →
      is_simple (kind_at nodes j) ≡ true → Contains (if b then row h j 1 ∷ [] else []) c → IsRow c
  far_if true i j h c e l u v si sj k = one_row (row h j 1) c (ChainedTwice i l u v e si sj refl) k
  far_if false i j h c e l u v si sj k = absurd (in_none c k)

  far_sound : (i j : ℕ) (o : Option ℕ) (c : Constraint) → ((h : ℕ) → o ≡ Some h → Uses nodes i h) → j < length nodes → Uses nodes j i → is_simple (kind_at nodes i) ≡ true →
      is_simple (kind_at nodes j) ≡ true → Contains (far_rows nodes j o) c → IsRow c
  far_sound i j None c v l u si sj k = absurd (in_none c k)
  far_sound i j (Some h) c v l u si sj k = far_if (is_simple (kind_at nodes h)) i j h c refl l u (v h refl) si sj k

  abbrev use_if_rows : Bool → Bool → ℕ → ℕ → List Constraint
  use_if_rows b d i j =
      if b then (if d then (row i j 0 ∷ []) ++ far_rows nodes j (node nodes i).left ++ far_rows nodes j (node nodes i).right else row i j 1 ∷ []) else row i j (latency_at nodes i) ∷ []

  use_if : (b d : Bool) (i j : ℕ) (c : Constraint) → is_simple (kind_at nodes i) ≡ b → is_simple (kind_at nodes j) ≡ d → j < length nodes → Uses nodes j i →
      Contains (use_if_rows b d i j) c → IsRow c
  use_if true true i j c si sj l u k = by_part (Contains-append_cases ((row i j 0 ∷ []) ++ far_rows nodes j (node nodes i).left) (far_rows nodes j (node nodes i).right) c k)
    where
      by_first : (Contains (row i j 0 ∷ []) c) ⊎ (Contains (far_rows nodes j (node nodes i).left) c) → IsRow c
      by_first (inl x) = one_row (row i j 0) c (Chained l u si sj refl) x
      by_first (inr x) = far_sound i j (node nodes i).left c (λ h e. inl e) l u si sj x

      by_part : (Contains ((row i j 0 ∷ []) ++ far_rows nodes j (node nodes i).left) c) ⊎ (Contains (far_rows nodes j (node nodes i).right) c) → IsRow c
      by_part (inl x) = by_first (Contains-append_cases (row i j 0 ∷ []) (far_rows nodes j (node nodes i).left) c x)
      by_part (inr x) = far_sound i j (node nodes i).right c (λ h e. inr e) l u si sj x
  use_if true false i j c si sj l u k = one_row (row i j 1) c (Kept l u si sj refl) k
  use_if false d i j c si sj l u k = one_row (row i j (latency_at nodes i)) c (Awaited l u si refl) k

  operand_sound : (j : ℕ) (o : Option ℕ) (c : Constraint) → ((i : ℕ) → o ≡ Some i → Uses nodes j i) → j < length nodes → Contains (operand_rows nodes j o) c → IsRow c
  operand_sound j None c u l k = absurd (in_none c k)
  operand_sound j (Some i) c u l k = use_if (is_simple (kind_at nodes i)) (is_simple (kind_at nodes j)) i j c refl refl l (u i refl) k

  operands_sound : (j : ℕ) (c : Constraint) → j < length nodes → Contains (rows_of_uses nodes j) c → IsRow c
  operands_sound j c l h = by_part (Contains-append_cases (operand_rows nodes j (node nodes j).left) (operand_rows nodes j (node nodes j).right) c h)
    where
      by_part : (Contains (operand_rows nodes j (node nodes j).left) c) ⊎ (Contains (operand_rows nodes j (node nodes j).right) c) → IsRow c
      by_part (inl x) = operand_sound j (node nodes j).left c (λ i e. inl e) l x
      by_part (inr x) = operand_sound j (node nodes j).right c (λ i e. inr e) l x

  pub uses_sound : (c : Constraint) → Contains (all_uses nodes (length nodes)) c → IsRow c
  uses_sound = of_below IsRow (rows_of_uses nodes) (length nodes) (λ j l c h. operands_sound j c l h)

  global_if : (b : Bool) (x y i j : ℕ) (v w : Bool) (c : Constraint) → nat_eq x y ≡ b → i < j → j < length nodes → kind_at nodes i ≡ Global x v → kind_at nodes j ≡ Global y w →
      Contains (gap_rows i j (if b then Some (gap_after v) else None)) c → IsRow c
  global_if true x y i j v w c e lt l p q k =
      let s : y ≡ x = grind arith in
      one_row (row i j (gap_after v)) c (OneGlobal x v w lt l p (q ∙ ap (λ (z : ℕ). Global z w) s) refl) k
  global_if false x y i j v w c e lt l p q k = absurd (in_none c k)

  array_if : (b d : Bool) (x y i j : ℕ) (v w : Bool) (c : Constraint) → nat_eq x y ≡ b → (v || w) ≡ d → i < j → j < length nodes → kind_at nodes i ≡ Array x v → kind_at nodes j ≡ Array y w →
      Contains (gap_rows i j (if b && d then Some 1 else None)) c → IsRow c
  array_if true true x y i j v w c e f lt l p q k =
      let s : y ≡ x = grind arith in
      one_row (row i j 1) c (OneArray x v w lt l p (q ∙ ap (λ (z : ℕ). Array z w) s) f refl) k
  array_if true false x y i j v w c e f lt l p q k = absurd (in_none c k)
  array_if false d x y i j v w c e f lt l p q k = absurd (in_none c k)

  gap_sound : (a b : Kind) (i j : ℕ) (c : Constraint) → i < j → j < length nodes → kind_at nodes i ≡ a → kind_at nodes j ≡ b → Contains (gap_rows i j (order_gap a b)) c → IsRow c
  gap_sound (Global x v) (Global y w) i j c lt l p q k = global_if (nat_eq x y) x y i j v w c refl lt l p q k
  gap_sound (Array x v) (Array y w) i j c lt l p q k = array_if (nat_eq x y) (v || w) x y i j v w c refl refl lt l p q k
  gap_sound a b i j c lt l p q k = absurd (in_none c k)

  order_sound : (j : ℕ) (k : ℕ) (c : Constraint) → k ≤ j → j < length nodes → Contains (order_rows nodes j k) c → IsRow c
  order_sound j zero c le l h = absurd (in_none c h)
  order_sound j (suc k) c le l h = by_part (order_sound j k c (omega arith) l) (Contains-append_cases (order_rows nodes j k) (gap_rows k j (order_gap (kind_at nodes k) (kind_at nodes j))) c h)
    where
      by_part : (Contains (order_rows nodes j k) c → IsRow c) → (Contains (order_rows nodes j k) c) ⊎ (Contains (gap_rows k j (order_gap (kind_at nodes k) (kind_at nodes j))) c) → IsRow c
      by_part rest (inl x) = rest x
      by_part rest (inr x) = gap_sound (kind_at nodes k) (kind_at nodes j) k j c (omega arith) l refl refl x

  orders_sound : (c : Constraint) → Contains (all_orders nodes (length nodes)) c → IsRow c
  orders_sound = of_below IsRow (λ j. order_rows nodes j j) (length nodes) (λ j l c h. order_sound j j c (omega arith) l h)

  pub ends_sound : (c : Constraint) → Contains (end_rows nodes (length nodes)) c → IsRow c
  ends_sound = of_below IsRow (end_row nodes) (length nodes) (λ i l c h. one_row (row i (length nodes) (latency_at nodes i)) c (Ends l refl refl) h)

  -- each row of the table is listed

  order_has : (j k i : ℕ) (c : Constraint) (gap : ℕ) → i < k → order_gap (kind_at nodes i) (kind_at nodes j) ≡ Some gap → c ≡ row i j gap → Contains (order_rows nodes j k) c
  order_has j zero i c gap lt e f = absurd (omega arith)
  order_has j (suc k) i c gap lt e f = by_place (cases_eq i k) (order_has j k i c gap)
    where
      here : Contains (gap_rows i j (order_gap (kind_at nodes i) (kind_at nodes j))) c
      here = subst (λ (o : Option ℕ). Contains (gap_rows i j o) c) (sym e) (is_one (row i j gap) c f)

      by_place : (i ≡ k) ⊎ (i ≡ k → ⊥) → (i < k → order_gap (kind_at nodes i) (kind_at nodes j) ≡ Some gap → c ≡ row i j gap → Contains (order_rows nodes j k) c) →
          Contains (order_rows nodes j k ++ gap_rows k j (order_gap (kind_at nodes k) (kind_at nodes j))) c
      by_place (inl p) rest = Contains-append_right (order_rows nodes j k) _ c (subst (λ (z : ℕ). Contains (gap_rows z j (order_gap (kind_at nodes z) (kind_at nodes j))) c) p here)
      by_place (inr ne) rest = Contains-append_left (order_rows nodes j k) _ c (rest (omega (arith, ne)) e f)

  operand_has : (i j : ℕ) (c : Constraint) → Uses nodes j i → Contains (use_rows nodes j i) c → Contains (rows_of_uses nodes j) c
  operand_has i j c (inl e) h =
      let h' : Contains (operand_rows nodes j (node nodes j).left) c = subst (λ (o : Option ℕ). Contains (operand_rows nodes j o) c) (sym e) h in
      Contains-append_left (operand_rows nodes j (node nodes j).left) (operand_rows nodes j (node nodes j).right) c h'
  operand_has i j c (inr e) h =
      let h' : Contains (operand_rows nodes j (node nodes j).right) c = subst (λ (o : Option ℕ). Contains (operand_rows nodes j o) c) (sym e) h in
      Contains-append_right (operand_rows nodes j (node nodes j).left) (operand_rows nodes j (node nodes j).right) c h'

  use_at : (b d : Bool) (i j : ℕ) (c : Constraint) → is_simple (kind_at nodes i) ≡ b → is_simple (kind_at nodes j) ≡ d → Contains (use_if_rows b d i j) c → Contains (use_rows nodes j i) c
  use_at b d i j c e f h =
      let h' : Contains (use_if_rows (is_simple (kind_at nodes i)) d i j) c = subst (λ (x : Bool). Contains (use_if_rows x d i j) c) (sym e) h in
      subst (λ (x : Bool). Contains (use_if_rows (is_simple (kind_at nodes i)) x i j) c) (sym f) h'

  awaits : (i j : ℕ) (c : Constraint) → is_simple (kind_at nodes i) ≡ false → Contains (row i j (latency_at nodes i) ∷ []) c → Contains (use_rows nodes j i) c
  awaits i j c e h = subst (λ (x : Bool). Contains (use_if_rows x (is_simple (kind_at nodes j)) i j) c) (sym e) h

  far_has : (i j h : ℕ) (c : Constraint) → Uses nodes i h → is_simple (kind_at nodes h) ≡ true → c ≡ row h j 1 → Contains (use_if_rows true true i j) c
  far_has i j h c (inl e) s f =
      let k : Contains (far_rows nodes j (Some h)) c = subst (λ (b : Bool). Contains (if b then row h j 1 ∷ [] else []) c) (sym s) (is_one (row h j 1) c f) in
      let k' : Contains (far_rows nodes j (node nodes i).left) c = subst (λ (o : Option ℕ). Contains (far_rows nodes j o) c) (sym e) k in
      Contains-append_left ((row i j 0 ∷ []) ++ far_rows nodes j (node nodes i).left) (far_rows nodes j (node nodes i).right) c
      (Contains-append_right (row i j 0 ∷ []) (far_rows nodes j (node nodes i).left) c k')
  far_has i j h c (inr e) s f =
      let k : Contains (far_rows nodes j (Some h)) c = subst (λ (b : Bool). Contains (if b then row h j 1 ∷ [] else []) c) (sym s) (is_one (row h j 1) c f) in
      let k' : Contains (far_rows nodes j (node nodes i).right) c = subst (λ (o : Option ℕ). Contains (far_rows nodes j o) c) (sym e) k in
      Contains-append_right ((row i j 0 ∷ []) ++ far_rows nodes j (node nodes i).left) (far_rows nodes j (node nodes i).right) c k'

  near_has : (i j : ℕ) (c : Constraint) → c ≡ row i j 0 → Contains (use_if_rows true true i j) c
  near_has i j c f =
      Contains-append_left ((row i j 0 ∷ []) ++ far_rows nodes j (node nodes i).left) (far_rows nodes j (node nodes i).right) c
      (Contains-append_left (row i j 0 ∷ []) (far_rows nodes j (node nodes i).left) c (is_one (row i j 0) c f))

  -- the rows for operands, by the cases of the table
  pub chained : (c : Constraint) → c.to < length nodes → Uses nodes c.to c.from → is_simple (kind_at nodes c.from) ≡ true → is_simple (kind_at nodes c.to) ≡ true → c.gap ≡ pos 0 →
      Contains (all_uses nodes (length nodes)) c
  chained c l u si sj g = below_has (rows_of_uses nodes) (length nodes) c.to c l (operand_has c.from c.to c u
      (use_at true true c.from c.to c si sj (near_has c.from c.to c (row_path c c.from c.to 0 refl refl g))))

  pub chained_twice : (c : Constraint) (j : ℕ) → c.to < length nodes → Uses nodes c.to j → Uses nodes j c.from → is_simple (kind_at nodes c.from) ≡ true → is_simple (kind_at nodes j) ≡ true →
      is_simple (kind_at nodes c.to) ≡ true → c.gap ≡ pos 1 → Contains (all_uses nodes (length nodes)) c
  chained_twice c j l u v sh sj st g =
      below_has (rows_of_uses nodes) (length nodes) c.to c l (operand_has j c.to c u (use_at true true j c.to c sj st (far_has j c.to c.from c v sh (row_path c c.from c.to 1 refl refl g))))

  pub kept : (c : Constraint) → c.to < length nodes → Uses nodes c.to c.from → is_simple (kind_at nodes c.from) ≡ true → is_simple (kind_at nodes c.to) ≡ false → c.gap ≡ pos 1 →
      Contains (all_uses nodes (length nodes)) c
  kept c l u si cj g =
      below_has (rows_of_uses nodes) (length nodes) c.to c l (operand_has c.from c.to c u (use_at true false c.from c.to c si cj (is_one (row c.from c.to 1) c (row_path c c.from c.to 1 refl refl g))))

  pub awaited : (c : Constraint) → c.to < length nodes → Uses nodes c.to c.from → is_simple (kind_at nodes c.from) ≡ false → c.gap ≡ pos (latency_at nodes c.from) →
      Contains (all_uses nodes (length nodes)) c
  awaited c l u ci g =
      below_has (rows_of_uses nodes) (length nodes) c.to c l
      (operand_has c.from c.to c u (awaits c.from c.to c ci (is_one (row c.from c.to (latency_at nodes c.from)) c (row_path c c.from c.to (latency_at nodes c.from) refl refl g))))

  pub ended : (c : Constraint) → c.from < length nodes → c.to ≡ length nodes → c.gap ≡ pos (latency_at nodes c.from) → Contains (end_rows nodes (length nodes)) c
  ended c l t g = below_has (end_row nodes) (length nodes) c.from c l (is_one _ c (row_path c c.from (length nodes) (latency_at nodes c.from) refl t g))

  global_gap : (x : ℕ) (v w : Bool) (a b : Kind) → a ≡ Global x v → b ≡ Global x w → order_gap a b ≡ Some (gap_after v)
  global_gap x v w a b p q =
      let e : nat_eq x x ≡ true = grind arith in
      rw (p, q, e) refl

  array_gap : (x : ℕ) (v w : Bool) (a b : Kind) → a ≡ Array x v → b ≡ Array x w → (v || w) ≡ true → order_gap a b ≡ Some 1
  array_gap x v w a b p q t =
      let e : nat_eq x x ≡ true = grind arith in
      rw (p, q, e, t) refl

  ordered : (c : Constraint) (gap : ℕ) → c.from < c.to → c.to < length nodes → order_gap (kind_at nodes c.from) (kind_at nodes c.to) ≡ Some gap → c.gap ≡ pos gap →
      Contains (all_orders nodes (length nodes)) c
  ordered c gap lt l e g = below_has (λ j. order_rows nodes j j) (length nodes) c.to c l (order_has c.to c.to c.from c gap lt e (row_path c c.from c.to gap refl refl g))

  abbrev uses_and_orders : List Constraint
  uses_and_orders = all_uses nodes (length nodes) ++ all_orders nodes (length nodes)

  abbrev all_rows : List Constraint
  all_rows = uses_and_orders ++ end_rows nodes (length nodes)

  in_uses : (c : Constraint) → Contains (all_uses nodes (length nodes)) c → Contains all_rows c
  in_uses c h =
      Contains-append_left uses_and_orders (end_rows nodes (length nodes)) c (Contains-append_left (all_uses nodes (length nodes)) (all_orders nodes (length nodes)) c h)

  in_orders : (c : Constraint) → Contains (all_orders nodes (length nodes)) c → Contains all_rows c
  in_orders c h =
      Contains-append_left uses_and_orders (end_rows nodes (length nodes)) c (Contains-append_right (all_uses nodes (length nodes)) (all_orders nodes (length nodes)) c h)

  complete : (c : Constraint) → IsRow c → Contains all_rows c
  complete c (Ends l t g) = Contains-append_right uses_and_orders (end_rows nodes (length nodes)) c (ended c l t g)
  complete c (Chained l u si sj g) = in_uses c (chained c l u si sj g)
  complete c (ChainedTwice j l u v sh sj st g) = in_uses c (chained_twice c j l u v sh sj st g)
  complete c (Kept l u si cj g) = in_uses c (kept c l u si cj g)
  complete c (Awaited l u ci g) = in_uses c (awaited c l u ci g)
  complete c (OneGlobal x v w lt l p q g) = in_orders c (ordered c (gap_after v) lt l (global_gap x v w (kind_at nodes c.from) (kind_at nodes c.to) p q) g)
  complete c (OneArray x v w lt l p q t g) = in_orders c (ordered c 1 lt l (array_gap x v w (kind_at nodes c.from) (kind_at nodes c.to) p q t) g)

  sound : (c : Constraint) → Contains all_rows c → IsRow c
  sound c h = by_part (Contains-append_cases uses_and_orders (end_rows nodes (length nodes)) c h)
    where
      by_first : (Contains (all_uses nodes (length nodes)) c) ⊎ (Contains (all_orders nodes (length nodes)) c) → IsRow c
      by_first (inl x) = uses_sound c x
      by_first (inr x) = orders_sound c x

      by_part : (Contains uses_and_orders c) ⊎ (Contains (end_rows nodes (length nodes)) c) → IsRow c
      by_part (inl x) = by_first (Contains-append_cases (all_uses nodes (length nodes)) (all_orders nodes (length nodes)) c x)
      by_part (inr x) = ends_sound c x

  pub is_table : (list : List Constraint) → list ≡ all_rows → IsTable nodes list
  is_table list e = ((λ c h. sound c (subst (λ (l : List Constraint). Contains l c) e h)), (λ c r. subst (λ (l : List Constraint). Contains l c) (sym e) (complete c r)))
