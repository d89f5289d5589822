-- Neighbouring accesses are enough: the reduced rows are rows of the table, and starts that meet them meet the table.
use Rattle.std.proofs.Common.{◌≡◌, ℕ, suc, zero, ◌+◌, ◌-◌, ◌*◌, ◌<◌, ◌≤◌, List, [], ◌∷◌, ◌++◌, length, length-append, Bool, true}
use Rattle.std.proofs.Common.{false, Option, Some, None, nat_eq, ◌||◌, if◌then◌else◌, refl, ap, subst, sym, ◌∙◌, ◌⊎◌, inl, inr, arith}
use Rattle.std.proofs.Common.{pos, ◌+ℤ◌, ◌≤ℤ◌}
use Rattle.std.specs.List.{All, Contains}
use Rattle.std.proofs.lemmas.Bool.{cases_eq, eqb-true, eq-eqb}
use Rattle.std.proofs.lemmas.Int.{ints}
use Rattle.std.proofs.lemmas.List.Elements.{Contains-append_left, Contains-append_right, Contains-append_cases, All-contains, All-contains_itself}
use Rattle.lists.proofs.Places.{in_none}
use Rattle.schedule_sdc.specs.declared.constraint.Constraint.{Constraint}
use Rattle.schedule_sdc.specs.Solution.{Meets, IsSolution, IsWithin}
use Rattle.op_graph.specs.declared.node.Kind.{Kind}
use Rattle.op_graph.specs.declared.node.Kind.TheVariants.{Simple, Multiply, Divide, Global, Array}
use Rattle.op_graph.specs.declared.node.Node.{Node}
use Rattle.op_graph.specs.Graph.{node, kind_at, is_simple, UseEarlier, latency_at}
use Rattle.op_graph.specs.Table.{Row, Ends, Chained, ChainedTwice, Kept, Awaited, OneGlobal, OneArray, gap_after, MeetsTable, AreRows, HasItsSolutions}
use Rattle.op_graph.specs.Listed.{row, rows_below, rows_of_uses, operand_rows, use_rows, far_rows, all_uses, end_row, end_rows}
use Rattle.op_graph.specs.Reduced.{last_below, first_from, accesses_global, writes_array, writes, global_at, write_at, after_access, global_rows, all_globals}
use Rattle.op_graph.specs.Reduced.{after_write, array_rows, all_arrays, before_write, read_rows, rows_of_last, all_reads}
use Rattle.op_graph.proofs.AppendedRows.{is_one, below_has, of_below, length-below}
use Rattle.op_graph.proofs.TableRows.{one_row, uses_sound, ends_sound, chained, chained_twice, kept, awaited, ended}

-- ---- the last below a place, and the first from one on

abbrev IsLast : (ℕ → Bool) → ℕ → ℕ → Type 0
IsLast test k m = (m < k) × (test m ≡ true)

last_if : (b : Bool) (test : ℕ → Bool) (k m : ℕ) → test k ≡ b → (if b then Some k else last_below test k) ≡ Some m → (last_below test k ≡ Some m → IsLast test k m) → IsLast test (suc k) m
last_if true test k m t e rest =
    let same : k ≡ m = cc in
    (omega arith, subst (λ (z : ℕ). test z ≡ true) same t)
last_if false test k m t e rest = let h = rest e in (omega arith, h.1)

pub last_is : (test : ℕ → Bool) (k m : ℕ) → last_below test k ≡ Some m → IsLast test k m
last_is test zero m e = absurd cc
last_is test (suc k) m e = last_if (test k) test k m refl e (last_is test k m)

abbrev HasLast : (ℕ → Bool) → ℕ → ℕ → Option ℕ → Type 0
HasLast test k i o = (m : ℕ) × (o ≡ Some m) × (i ≤ m) × (m < k) × (test m ≡ true)

has_last_if : (b : Bool) (test : ℕ → Bool) (k i : ℕ) → test k ≡ b → i < suc k → test i ≡ true → (i < k → HasLast test k i (last_below test k)) →
    HasLast test (suc k) i (if b then Some k else last_below test k)
has_last_if true test k i t l e rest = (k, refl, omega arith, omega arith, t)
has_last_if false test k i t l e rest = by_place (cases_eq i k)
  where
    by_place : (i ≡ k) ⊎ (i ≡ k → ⊥) → HasLast test (suc k) i (last_below test k)
    by_place (inl same) = let not_it : test k ≡ true = subst (λ (z : ℕ). test z ≡ true) same e in absurd cc
    by_place (inr other) =
        let h = rest (omega (arith, other)) in
        (h.0, h.1, h.2, omega (arith, h.3), h.4)

has_last : (test : ℕ → Bool) (k i : ℕ) → i < k → test i ≡ true → HasLast test k i (last_below test k)
has_last test zero i l e = absurd (omega arith)
has_last test (suc k) i l e = has_last_if (test k) test k i refl l e (λ less. has_last test k i less e)

abbrev IsFirst : (ℕ → Bool) → ℕ → ℕ → ℕ → Type 0
IsFirst test i m k = (i ≤ k) × (k < i + m) × (test k ≡ true)

first_if : (b : Bool) (test : ℕ → Bool) (i m k : ℕ) → test i ≡ b → (if b then Some i else first_from test (suc i) m) ≡ Some k → (first_from test (suc i) m ≡ Some k → IsFirst test (suc i) m k) →
    IsFirst test i (suc m) k
first_if true test i m k t e rest =
    let same : i ≡ k = cc in
    (omega arith, omega arith, subst (λ (z : ℕ). test z ≡ true) same t)
first_if false test i m k t e rest = let h = rest e in (omega (arith, h.0), omega (arith, h.1), h.2)

first_is : (test : ℕ → Bool) (i m k : ℕ) → first_from test i m ≡ Some k → IsFirst test i m k
first_is test i zero k e = absurd cc
first_is test i (suc m) k e = first_if (test i) test i m k refl e (first_is test (suc i) m k)

abbrev HasFirst : (ℕ → Bool) → ℕ → ℕ → ℕ → Option ℕ → Type 0
HasFirst test i m k o = (f : ℕ) × (o ≡ Some f) × (i ≤ f) × (f ≤ k) × (test f ≡ true)

has_first_if : (b : Bool) (test : ℕ → Bool) (i m k : ℕ) → test i ≡ b → i ≤ k → k < i + suc m → test k ≡ true →
    (suc i ≤ k → k < suc i + m → HasFirst test (suc i) m k (first_from test (suc i) m)) → HasFirst test i (suc m) k (if b then Some i else first_from test (suc i) m)
has_first_if true test i m k t l h e rest = (i, refl, omega arith, omega arith, t)
has_first_if false test i m k t l h e rest = by_place (cases_eq i k)
  where
    by_place : (i ≡ k) ⊎ (i ≡ k → ⊥) → HasFirst test i (suc m) k (first_from test (suc i) m)
    by_place (inl same) = let not_it : test i ≡ true = subst (λ (z : ℕ). test z ≡ true) (sym same) e in absurd cc
    by_place (inr other) =
        let f = rest (omega (arith, other)) (omega arith) in
        (f.0, f.1, omega (arith, f.2), f.3, f.4)

has_first : (test : ℕ → Bool) (i m k : ℕ) → i ≤ k → k < i + m → test k ≡ true → HasFirst test i m k (first_from test i m)
has_first test i zero k l h e = absurd (omega arith)
has_first test i (suc m) k l h e = has_first_if (test i) test i m k refl l h e (λ a b. has_first test (suc i) m k a b e)

-- ---- what passes the tests

global_kind : (x : ℕ) (k : Kind) → accesses_global x k ≡ true → k ≡ Global x (writes k)
global_kind x Simple e = absurd cc
global_kind x (Multiply w) e = absurd cc
global_kind x (Divide w s) e = absurd cc
global_kind x (Global y w) e = ap (λ (z : ℕ). Global z w) (eqb-true y x e)
global_kind x (Array y w) e = absurd cc

write_kind : (x : ℕ) (k : Kind) → writes_array x k ≡ true → k ≡ Array x true
write_kind x Simple e = absurd cc
write_kind x (Multiply w) e = absurd cc
write_kind x (Divide w s) e = absurd cc
write_kind x (Global y w) e = absurd cc
write_kind x (Array y true) e = ap (λ (z : ℕ). Array z true) (eqb-true y x e)
write_kind x (Array y false) e = absurd cc

is_global : (x : ℕ) (w : Bool) (k : Kind) → k ≡ Global x w → accesses_global x k ≡ true
is_global x w k e = rw e (eq-eqb x x refl)

is_write : (x : ℕ) (k : Kind) → k ≡ Array x true → writes_array x k ≡ true
is_write x k e = rw e (eq-eqb x x refl)

writes_is : (x : ℕ) (w : Bool) (k : Kind) → k ≡ Global x w → writes k ≡ w
writes_is x w k e = rw e refl

module _ (nodes : List Node) where
  -- ---- each reduced row is a row of the table

  global_sound : (j : ℕ) (k : Kind) (c : Constraint) → j < length nodes → kind_at nodes j ≡ k → Contains (global_rows nodes j k) c → Row nodes c
  global_sound j (Global x w) c l e h = by_last (last_below (global_at nodes x) j) refl h
    where
      by_last : (o : Option ℕ) → last_below (global_at nodes x) j ≡ o → Contains (after_access nodes j o) c → Row nodes c
      by_last None f g = absurd (in_none c g)
      by_last (Some i) f g =
          let is = last_is (global_at nodes x) j i f in
          one_row nodes (row i j (gap_after (writes (kind_at nodes i)))) c (OneGlobal x (writes (kind_at nodes i)) w is.0 l (global_kind x (kind_at nodes i) is.1) e refl) g
  global_sound j k c l e h = absurd (in_none c h)

  array_sound : (j : ℕ) (k : Kind) (c : Constraint) → j < length nodes → kind_at nodes j ≡ k → Contains (array_rows nodes j k) c → Row nodes c
  array_sound j (Array x w) c l e h = by_last (last_below (write_at nodes x) j) refl h
    where
      by_last : (o : Option ℕ) → last_below (write_at nodes x) j ≡ o → Contains (after_write j o) c → Row nodes c
      by_last None f g = absurd (in_none c g)
      by_last (Some i) f g =
          let is = last_is (write_at nodes x) j i f in
          one_row nodes (row i j 1) c (OneArray x true w is.0 l (write_kind x (kind_at nodes i) is.1) e refl refl) g
  array_sound j k c l e h = absurd (in_none c h)

  read_sound : (i m : ℕ) (k : Kind) (c : Constraint) → suc i + m ≤ length nodes → kind_at nodes i ≡ k → Contains (read_rows nodes i m k) c → Row nodes c
  read_sound i m (Array x false) c l e h = by_first (first_from (write_at nodes x) (suc i) m) refl h
    where
      by_first : (o : Option ℕ) → first_from (write_at nodes x) (suc i) m ≡ o → Contains (before_write i o) c → Row nodes c
      by_first None f g = absurd (in_none c g)
      by_first (Some j) f g =
          let is = first_is (write_at nodes x) (suc i) m j f in
          one_row nodes (row i j 1) c (OneArray x false true (omega (arith, is.0)) (omega (arith, is.1)) e (write_kind x (kind_at nodes j) is.2) refl refl) g
  read_sound i m k c l e h = absurd (in_none c h)

  globals_sound : (c : Constraint) → Contains (all_globals nodes (length nodes)) c → Row nodes c
  globals_sound = of_below (Row nodes) (λ j. global_rows nodes j (kind_at nodes j)) (length nodes) (λ j l c h. global_sound j (kind_at nodes j) c l refl h)

  arrays_sound : (c : Constraint) → Contains (all_arrays nodes (length nodes)) c → Row nodes c
  arrays_sound = of_below (Row nodes) (λ j. array_rows nodes j (kind_at nodes j)) (length nodes) (λ j l c h. array_sound j (kind_at nodes j) c l refl h)

  reads_sound : (c : Constraint) → Contains (all_reads nodes (length nodes)) c → Row nodes c
  reads_sound = of_below (Row nodes) (rows_of_last nodes) (length nodes) (λ m l c h. read_sound (length nodes - suc m) m (kind_at nodes (length nodes - suc m)) c (omega arith) refl h)

  -- ---- the list

  abbrev uses_and_globals : List Constraint
  uses_and_globals = all_uses nodes (length nodes) ++ all_globals nodes (length nodes)

  abbrev with_arrays : List Constraint
  with_arrays = uses_and_globals ++ all_arrays nodes (length nodes)

  abbrev with_reads : List Constraint
  with_reads = with_arrays ++ all_reads nodes (length nodes)

  abbrev reduced : List Constraint
  reduced = with_reads ++ end_rows nodes (length nodes)

  pub reduced_sound : (c : Constraint) → Contains reduced c → Row nodes c
  reduced_sound c h = last (Contains-append_cases with_reads (end_rows nodes (length nodes)) c h)
    where
      first : (Contains (all_uses nodes (length nodes)) c) ⊎ (Contains (all_globals nodes (length nodes)) c) → Row nodes c
      first (inl x) = uses_sound nodes c x
      first (inr x) = globals_sound c x

      second : (Contains uses_and_globals c) ⊎ (Contains (all_arrays nodes (length nodes)) c) → Row nodes c
      second (inl x) = first (Contains-append_cases (all_uses nodes (length nodes)) (all_globals nodes (length nodes)) c x)
      second (inr x) = arrays_sound c x

      third : (Contains with_arrays c) ⊎ (Contains (all_reads nodes (length nodes)) c) → Row nodes c
      third (inl x) = second (Contains-append_cases uses_and_globals (all_arrays nodes (length nodes)) c x)
      third (inr x) = reads_sound c x

      last : (Contains with_reads c) ⊎ (Contains (end_rows nodes (length nodes)) c) → Row nodes c
      last (inl x) = third (Contains-append_cases with_arrays (all_reads nodes (length nodes)) c x)
      last (inr x) = ends_sound nodes c x

  in_ends : (c : Constraint) → Contains (end_rows nodes (length nodes)) c → Contains reduced c
  in_ends c h = Contains-append_right with_reads (end_rows nodes (length nodes)) c h

  in_reads : (c : Constraint) → Contains (all_reads nodes (length nodes)) c → Contains reduced c
  in_reads c h = Contains-append_left with_reads (end_rows nodes (length nodes)) c (Contains-append_right with_arrays (all_reads nodes (length nodes)) c h)

  in_with_arrays : (c : Constraint) → Contains with_arrays c → Contains reduced c
  in_with_arrays c h = Contains-append_left with_reads (end_rows nodes (length nodes)) c (Contains-append_left with_arrays (all_reads nodes (length nodes)) c h)

  in_arrays : (c : Constraint) → Contains (all_arrays nodes (length nodes)) c → Contains reduced c
  in_arrays c h = in_with_arrays c (Contains-append_right uses_and_globals (all_arrays nodes (length nodes)) c h)

  in_globals : (c : Constraint) → Contains (all_globals nodes (length nodes)) c → Contains reduced c
  in_globals c h =
      in_with_arrays c
      (Contains-append_left uses_and_globals (all_arrays nodes (length nodes)) c (Contains-append_right (all_uses nodes (length nodes)) (all_globals nodes (length nodes)) c h))

  in_uses : (c : Constraint) → Contains (all_uses nodes (length nodes)) c → Contains reduced c
  in_uses c h =
      in_with_arrays c
      (Contains-append_left uses_and_globals (all_arrays nodes (length nodes)) c (Contains-append_left (all_uses nodes (length nodes)) (all_globals nodes (length nodes)) c h))

  -- ---- starts that meet the list

  module _ (t : ℕ → ℕ) (solves : IsSolution reduced t) where
    met : (c : Constraint) → Contains reduced c → Meets t c
    met c h = All-contains (Meets t) reduced c solves h

    met_row : (i j gap : ℕ) → Contains reduced (row i j gap) → t i + gap ≤ t j
    met_row i j gap h = let m = met (row i j gap) h in omega (arith, ints, m)

    -- a global's accesses
    next_access : (x i j : ℕ) (w : Bool) → j < length nodes → kind_at nodes j ≡ Global x w → last_below (global_at nodes x) j ≡ Some i → t i + gap_after (writes (kind_at nodes i)) ≤ t j
    next_access x i j w l e f =
        let gap = gap_after (writes (kind_at nodes i)) in
        let one : Contains (after_access nodes j (Some i)) (row i j gap) = is_one (row i j gap) (row i j gap) refl in
        let here : Contains (after_access nodes j (last_below (global_at nodes x) j)) (row i j gap) = subst (λ (o : Option ℕ). Contains (after_access nodes j o) (row i j gap)) (sym f) one in
        let there : Contains (global_rows nodes j (kind_at nodes j)) (row i j gap) = subst (λ (k : Kind). Contains (global_rows nodes j k) (row i j gap)) (sym e) here in
        met_row i j gap (in_globals (row i j gap) (below_has (λ z. global_rows nodes z (kind_at nodes z)) (length nodes) j (row i j gap) l there))

    -- by how far j is from the block's start
    accesses_follow : (most x i j : ℕ) (v w : Bool) → j < most → i < j → j < length nodes → kind_at nodes i ≡ Global x v → kind_at nodes j ≡ Global x w → t i + gap_after v ≤ t j
    accesses_follow zero x i j v w few lt l p q = absurd (omega arith)
    accesses_follow (suc most) x i j v w few lt l p q =
        let h = has_last (global_at nodes x) j i lt (is_global x v (kind_at nodes i) p) in
        by_place h (cases_eq i h.0) (λ less. accesses_follow most x i h.0 v (writes (kind_at nodes h.0)) (omega (arith, h.3)) less (omega (arith, h.3)) p (global_kind x (kind_at nodes h.0) h.4))
      where
        by_place : (h : HasLast (global_at nodes x) j i (last_below (global_at nodes x) j)) → (i ≡ h.0) ⊎ (i ≡ h.0 → ⊥) → (i < h.0 → t i + gap_after v ≤ t h.0) → t i + gap_after v ≤ t j
        by_place h (inl same) rest =
            let n = next_access x h.0 j w l q h.1 in
            let g : gap_after (writes (kind_at nodes i)) ≡ gap_after v = ap gap_after (writes_is x v (kind_at nodes i) p) in
            let n' : t i + gap_after (writes (kind_at nodes i)) ≤ t j = subst (λ (z : ℕ). t z + gap_after (writes (kind_at nodes z)) ≤ t j) (sym same) n in
            omega (arith, g, n')
        by_place h (inr other) rest =
            let r = rest (omega (arith, h.2, other)) in
            let n = next_access x h.0 j w l q h.1 in
            omega (arith, r, n)

    -- a local array's
    after_last : (x i j : ℕ) (w : Bool) → j < length nodes → kind_at nodes j ≡ Array x w → last_below (write_at nodes x) j ≡ Some i → t i + 1 ≤ t j
    after_last x i j w l e f =
        let one : Contains (after_write j (Some i)) (row i j 1) = is_one (row i j 1) (row i j 1) refl in
        let here : Contains (after_write j (last_below (write_at nodes x) j)) (row i j 1) = subst (λ (o : Option ℕ). Contains (after_write j o) (row i j 1)) (sym f) one in
        let there : Contains (array_rows nodes j (kind_at nodes j)) (row i j 1) = subst (λ (k : Kind). Contains (array_rows nodes j k) (row i j 1)) (sym e) here in
        met_row i j 1 (in_arrays (row i j 1) (below_has (λ z. array_rows nodes z (kind_at nodes z)) (length nodes) j (row i j 1) l there))

    before_first : (x i j : ℕ) → i < length nodes → kind_at nodes i ≡ Array x false → first_from (write_at nodes x) (suc i) (length nodes - suc i) ≡ Some j → t i + 1 ≤ t j
    before_first x i j l e f =
        let m = length nodes - suc i in
        let back : length nodes - suc m ≡ i = omega arith in
        let one : Contains (before_write i (Some j)) (row i j 1) = is_one (row i j 1) (row i j 1) refl in
        let here : Contains (before_write i (first_from (write_at nodes x) (suc i) m)) (row i j 1) = subst (λ (o : Option ℕ). Contains (before_write i o) (row i j 1)) (sym f) one in
        let there : Contains (read_rows nodes i m (kind_at nodes i)) (row i j 1) = subst (λ (k : Kind). Contains (read_rows nodes i m k) (row i j 1)) (sym e) here in
        let last : Contains (rows_of_last nodes m) (row i j 1) = subst (λ (z : ℕ). Contains (read_rows nodes z m (kind_at nodes z)) (row i j 1)) (sym back) there in
        met_row i j 1 (in_reads (row i j 1) (below_has (rows_of_last nodes) (length nodes) m (row i j 1) (omega arith) last))

    -- a write and a later access
    write_first : (most x i j : ℕ) (w : Bool) → j < most → i < j → j < length nodes → kind_at nodes i ≡ Array x true → kind_at nodes j ≡ Array x w → t i + 1 ≤ t j
    write_first zero x i j w few lt l p q = absurd (omega arith)
    write_first (suc most) x i j w few lt l p q =
        let h = has_last (write_at nodes x) j i lt (is_write x (kind_at nodes i) p) in
        by_place h (cases_eq i h.0) (λ less. write_first most x i h.0 true (omega (arith, h.3)) less (omega (arith, h.3)) p (write_kind x (kind_at nodes h.0) h.4))
      where
        by_place : (h : HasLast (write_at nodes x) j i (last_below (write_at nodes x) j)) → (i ≡ h.0) ⊎ (i ≡ h.0 → ⊥) → (i < h.0 → t i + 1 ≤ t h.0) → t i + 1 ≤ t j
        by_place h (inl same) rest = subst (λ (z : ℕ). t z + 1 ≤ t j) (sym same) (after_last x h.0 j w l q h.1)
        by_place h (inr other) rest =
            let r = rest (omega (arith, h.2, other)) in
            let n = after_last x h.0 j w l q h.1 in
            omega (arith, r, n)

    -- a read and a later write
    read_first : (x i j : ℕ) → i < j → j < length nodes → kind_at nodes i ≡ Array x false → kind_at nodes j ≡ Array x true → t i + 1 ≤ t j
    read_first x i j lt l p q =
        let h = has_first (write_at nodes x) (suc i) (length nodes - suc i) j (omega arith) (omega arith) (is_write x (kind_at nodes j) q) in
        by_place h (cases_eq h.0 j)
      where
        by_place : (h : HasFirst (write_at nodes x) (suc i) (length nodes - suc i) j (first_from (write_at nodes x) (suc i) (length nodes - suc i))) → (h.0 ≡ j) ⊎ (h.0 ≡ j → ⊥) → t i + 1 ≤ t j
        by_place h (inl same) = subst (λ (z : ℕ). t i + 1 ≤ t z) same (before_first x i h.0 (omega arith) p h.1)
        by_place h (inr other) =
            let near = before_first x i h.0 (omega arith) p h.1 in
            let far = write_first (suc j) x h.0 j true (omega arith) (omega (arith, h.3, other)) l (write_kind x (kind_at nodes h.0) h.4) q in
            omega (arith, near, far)

    one_array : (v w : Bool) (x i j : ℕ) → i < j → j < length nodes → kind_at nodes i ≡ Array x v → kind_at nodes j ≡ Array x w → (v || w) ≡ true → t i + 1 ≤ t j
    one_array true w x i j lt l p q e = write_first (suc j) x i j w (omega arith) lt l p q
    one_array false true x i j lt l p q e = read_first x i j lt l p q
    one_array false false x i j lt l p q e = absurd cc

    fits : (c : Constraint) (gap : ℕ) → c.gap ≡ pos gap → t c.from + gap ≤ t c.to → Meets t c
    fits c gap e l = rw e (omega (arith, ints, l))

    reduced_meets : MeetsTable nodes t
    reduced_meets c (Ends l e g) = met c (in_ends c (ended nodes c l e g))
    reduced_meets c (Chained l u si sj g) = met c (in_uses c (chained nodes c l u si sj g))
    reduced_meets c (ChainedTwice j l u v sh sj st g) = met c (in_uses c (chained_twice nodes c j l u v sh sj st g))
    reduced_meets c (Kept l u si cj g) = met c (in_uses c (kept nodes c l u si cj g))
    reduced_meets c (Awaited l u ci g) = met c (in_uses c (awaited nodes c l u ci g))
    reduced_meets c (OneGlobal x v w lt l p q g) = fits c (gap_after v) g (accesses_follow (suc c.to) x c.from c.to v w (omega arith) lt l p q)
    reduced_meets c (OneArray x v w lt l p q e g) = fits c 1 g (one_array v w x c.from c.to lt l p q e)

  pub reduced_rows : (list : List Constraint) → list ≡ reduced → AreRows nodes list
  reduced_rows list e = λ c h. reduced_sound c (subst (λ (l : List Constraint). Contains l c) e h)

  pub same_solutions : (list : List Constraint) → list ≡ reduced → HasItsSolutions nodes list
  same_solutions list e = λ t. (
    λ solves. reduced_meets t (subst (λ (l : List Constraint). IsSolution l t) e solves),
    λ meets. subst (λ (l : List Constraint). IsSolution l t) (sym e) (λ k d l. meets _ (reduced_sound _ (All-contains_itself reduced k d l))),
  )

  -- ---- its places, and how long it is

  pub row_within : UseEarlier nodes → (c : Constraint) → Row nodes c → IsWithin (length nodes + 1) c
  row_within earlier c (Ends l e g) = (omega arith, omega arith)
  row_within earlier c (Chained l u si sj g) = let h = earlier c.to c.from l u in (omega arith, omega arith)
  row_within earlier c (ChainedTwice j l u v sh sj st g) = let h = earlier c.to j l u in let k = earlier j c.from (omega arith) v in (omega arith, omega arith)
  row_within earlier c (Kept l u si cj g) = let h = earlier c.to c.from l u in (omega arith, omega arith)
  row_within earlier c (Awaited l u ci g) = let h = earlier c.to c.from l u in (omega arith, omega arith)
  row_within earlier c (OneGlobal x v w lt l p q g) = (omega arith, omega arith)
  row_within earlier c (OneArray x v w lt l p q e g) = (omega arith, omega arith)

  pub places_within : UseEarlier nodes → (list : List Constraint) → list ≡ reduced → All (IsWithin (length nodes + 1)) list
  places_within earlier list e =
      subst (λ (l : List Constraint). All (IsWithin (length nodes + 1)) l) (sym e) (λ k d l. row_within earlier _ (reduced_sound _ (All-contains_itself reduced k d l)))

  far_few : (j : ℕ) (o : Option ℕ) → length (far_rows nodes j o) ≤ 1
  far_few j None = omega arith
  far_few j (Some h) = by_kind (is_simple (kind_at nodes h))
    where
      by_kind : (b : Bool) → length (if b then row h j 1 ∷ [] else []) ≤ 1
      by_kind true = omega arith
      by_kind false = omega arith

  use_few : (i j : ℕ) → length (use_rows nodes j i) ≤ 3
  use_few i j = by_kind (is_simple (kind_at nodes i)) (is_simple (kind_at nodes j))
    where
      by_kind : (b d : Bool) →
          length (if b then (if d then (row i j 0 ∷ []) ++ far_rows nodes j (node nodes i).left ++ far_rows nodes j (node nodes i).right else row i j 1 ∷ []) else row i j
          (latency_at nodes i) ∷ []) ≤ 3
      by_kind true true =
          let a = far_few j (node nodes i).left in
          let b = far_few j (node nodes i).right in
          let n = length-append (row i j 0 ∷ []) (far_rows nodes j (node nodes i).left) in
          let m = length-append ((row i j 0 ∷ []) ++ far_rows nodes j (node nodes i).left) (far_rows nodes j (node nodes i).right) in
          omega (arith, a, b, n, m)
      by_kind true false = omega arith
      by_kind false d = omega arith

  operand_few : (j : ℕ) (o : Option ℕ) → length (operand_rows nodes j o) ≤ 3
  operand_few j None = omega arith
  operand_few j (Some i) = use_few i j

  uses_few : (j : ℕ) → length (rows_of_uses nodes j) ≤ 6
  uses_few j =
      let a = operand_few j (node nodes j).left in
      let b = operand_few j (node nodes j).right in
      omega (arith, a, b, length-append (operand_rows nodes j (node nodes j).left) (operand_rows nodes j (node nodes j).right))

  after_access_few : (j : ℕ) (o : Option ℕ) → length (after_access nodes j o) ≤ 1
  after_access_few j None = omega arith
  after_access_few j (Some i) = omega arith

  after_write_few : (j : ℕ) (o : Option ℕ) → length (after_write j o) ≤ 1
  after_write_few j None = omega arith
  after_write_few j (Some i) = omega arith

  before_write_few : (j : ℕ) (o : Option ℕ) → length (before_write j o) ≤ 1
  before_write_few j None = omega arith
  before_write_few j (Some i) = omega arith

  global_few : (j : ℕ) (k : Kind) → length (global_rows nodes j k) ≤ 1
  global_few j (Global x w) = after_access_few j (last_below (global_at nodes x) j)
  global_few j k = omega arith

  array_few : (j : ℕ) (k : Kind) → length (array_rows nodes j k) ≤ 1
  array_few j (Array x w) = after_write_few j (last_below (write_at nodes x) j)
  array_few j k = omega arith

  read_few : (i m : ℕ) (k : Kind) → length (read_rows nodes i m k) ≤ 1
  read_few i m (Array x false) = before_write_few i (first_from (write_at nodes x) (suc i) m)
  read_few i m k = omega arith

  pub few_rows : (list : List Constraint) → list ≡ reduced → length list ≤ 10 * length nodes
  few_rows list e =
      let u = length-below (rows_of_uses nodes) 6 (length nodes) uses_few in
      let g = length-below (λ j. global_rows nodes j (kind_at nodes j)) 1 (length nodes) (λ j. global_few j (kind_at nodes j)) in
      let a = length-below (λ j. array_rows nodes j (kind_at nodes j)) 1 (length nodes) (λ j. array_few j (kind_at nodes j)) in
      let r = length-below (rows_of_last nodes) 1 (length nodes) (λ m. read_few (length nodes - suc m) m (kind_at nodes (length nodes - suc m))) in
      let s = length-below (end_row nodes) 1 (length nodes) (λ j. omega arith) in
      let n = length-append (all_uses nodes (length nodes)) (all_globals nodes (length nodes)) in
      let m = length-append uses_and_globals (all_arrays nodes (length nodes)) in
      let p = length-append with_arrays (all_reads nodes (length nodes)) in
      let q = length-append with_reads (end_rows nodes (length nodes)) in
      rw e (omega (arith, u, g, a, r, s, n, m, p, q))
