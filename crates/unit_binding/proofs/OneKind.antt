-- The operations of one kind, with the rows of their packing.
use Rattle.std.proofs.Common.{◌≡◌, ◌≢◌, ℕ, ◌<◌, List, length, Bool, true, false, nat_lt, ◌&&◌, refl, ap, sym, ◌∙◌, ◌⊎◌, inl, inr, arith}
use Rattle.std.specs.Prelude.{nat_le, slice_index}
use Rattle.std.specs.List.{count_by, range_with_len}
use Rattle.std.proofs.lemmas.Bool.{cases_Bool, cond-true, cond-false}
use Rattle.interval_pack.specs.declared.interval.Interval.{Interval}
use Rattle.interval_pack.specs.LeftEdge.{IsBefore}
use Rattle.interval_pack.specs.Packing.{at, nowhere, start_of, Meet, crowd_at}
use Rattle.interval_pack.proofs.Counts.{holds}
use Rattle.interval_pack.specs.Sparse.{HasPlace, IsSparsePacking}
use Rattle.interval_pack.proofs.ChosenIntervals.{crowd-counted, count-same}
use Rattle.op_graph.specs.declared.node.Kind.{Kind}
use Rattle.op_graph.specs.declared.node.Node.{Node}
use Rattle.op_graph.specs.Graph.{kind_at, done, same_kind}
use Rattle.op_graph.proofs.OneByOne.{at_least_one}
use Rattle.unit_binding.specs.Units.{WorkTogether, works_at, use_at, IsGreatestUse}
use Rattle.unit_binding.specs.Works.{AreWorks, IsTakenOver, IsTaken, IsBoundKind}
use Rattle.unit_binding.proofs.SameKinds.{same_along, same_back}

module _ (nodes : List Node) (starts : List ℕ) (kind : Kind) (works : List Interval) (are : AreWorks nodes starts kind works) where
  abbrev n : ℕ
  n = length nodes

  abbrev IsOfKind : ℕ → Type 0
  IsOfKind i = same_kind kind (kind_at nodes i) ≡ true

  work_is : (i : ℕ) → i < n → IsOfKind i → at works i ≡ record { start = slice_index starts i; end = done nodes starts i }
  work_is i l e = are.each i l ∙ cond-true (same_kind kind (kind_at nodes i)) (record { start = slice_index starts i; end = done nodes starts i }) nowhere e

  no_work : (i : ℕ) → i < n → same_kind kind (kind_at nodes i) ≡ false → at works i ≡ nowhere
  no_work i l e = are.each i l ∙ cond-false (same_kind kind (kind_at nodes i)) (record { start = slice_index starts i; end = done nodes starts i }) nowhere e

  start_is : (i : ℕ) → i < n → IsOfKind i → start_of works i ≡ slice_index starts i
  start_is i l e = ap (λ (x : Interval). x.start) (work_is i l e)

  end_is : (i : ℕ) → i < n → IsOfKind i → (at works i).end ≡ done nodes starts i
  end_is i l e = ap (λ (x : Interval). x.end) (work_is i l e)

  has_place : (i : ℕ) → i < n → IsOfKind i → HasPlace (at works i)
  has_place i l e =
      let s = start_is i l e in
      let d = end_is i l e in
      let one = at_least_one (kind_at nodes i) in
      omega arith

  of_kind : (i : ℕ) → i < n → HasPlace (at works i) → (same_kind kind (kind_at nodes i) ≡ true) ⊎ (same_kind kind (kind_at nodes i) ≡ false) → IsOfKind i
  of_kind i l h (inl e) = e
  of_kind i l h (inr e) =
      let s : (at works i).start ≡ 0 = ap (λ (x : Interval). x.start) (no_work i l e) in
      let d : (at works i).end ≡ 0 = ap (λ (x : Interval). x.end) (no_work i l e) in
      absurd (omega arith)

  before_in : (i j : ℕ) → i < n → j < n → IsOfKind i → IsOfKind j → IsBefore (slice_index starts) i j → IsBefore (start_of works) i j
  before_in i j li lj ki kj (inl x) = let a = start_is i li ki in let b = start_is j lj kj in inl (omega arith)
  before_in i j li lj ki kj (inr x) = let a = start_is i li ki in let b = start_is j lj kj in let e = x.0 in inr (omega arith, x.1)

  before_out : (i j : ℕ) → i < n → j < n → IsOfKind i → IsOfKind j → IsBefore (start_of works) i j → IsBefore (slice_index starts) i j
  before_out i j li lj ki kj (inl x) = let a = start_is i li ki in let b = start_is j lj kj in inl (omega arith)
  before_out i j li lj ki kj (inr x) = let a = start_is i li ki in let b = start_is j lj kj in let e = x.0 in inr (omega arith, x.1)

  module _ (row : List ℕ) (rows crowded : ℕ) (packing : IsSparsePacking works row rows crowded) where
    works_if : (b : Bool) (p i : ℕ) → same_kind kind (kind_at nodes i) ≡ b → i < n →
        holds p (at works i) ≡ (b && (nat_le (slice_index starts i) p && nat_lt p (done nodes starts i)))
    works_if true p i e l = ap (holds p) (work_is i l e)
    works_if false p i e l = ap (holds p) (no_work i l e) ∙ (let h : holds p nowhere ≡ false = grind arith in h)

    use_is : (p : ℕ) → crowd_at works p ≡ use_at nodes starts kind p
    use_is p =
        let c = crowd-counted works p in
        let m = ap (λ (k : ℕ). count_by (λ (i : ℕ). holds p (at works i)) (range_with_len 0 k)) are.count in
        let s = count-same (λ i. holds p (at works i)) (works_at nodes starts kind p) n (λ i l. works_if (same_kind kind (kind_at nodes i)) p i refl l) in
        c ∙ (m ∙ s)

    pub greatest_use : IsGreatestUse nodes starts kind rows
    greatest_use = (
      λ p. let m = packing.most p in let e = use_is p in omega arith,
      (crowded, sym (use_is crowded) ∙ packing.crowd),
    )

    module _ (old new : List ℕ) (count : length old ≡ length nodes) (taken : IsTakenOver nodes kind row (length nodes) old new) where
      new_is : (i : ℕ) → i < n → IsOfKind i → slice_index new i ≡ slice_index row i
      new_is i l e = taken.taken i l ∙ cond-true (same_kind kind (kind_at nodes i)) (slice_index row i) (slice_index old i) e

      apart : (i j : ℕ) → i < n → j < n → IsOfKind i → IsBefore (slice_index starts) i j → WorkTogether nodes starts i j → slice_index new i ≢ slice_index new j
      apart i j li lj ki before together =
          let kj = same_along kind (kind_at nodes i) (kind_at nodes j) ki together.0 in
          let a = start_is i li ki in
          let b = start_is j lj kj in
          let c = end_is i li ki in
          let d = end_is j lj kj in
          let meet : Meet (at works i) (at works j) = (omega (arith, together.1), omega (arith, together.2)) in
          let h = packing.packed.apart i j (omega (arith, are.count)) (omega (arith, are.count)) (before_in i j li lj ki kj before) (has_place i li ki, has_place j lj kj, meet) in
          λ e. h (sym (new_is i li ki) ∙ (e ∙ new_is j lj kj))

      least : (j r : ℕ) → j < n → IsOfKind j → r < slice_index new j → IsTaken nodes starts new j r
      least j r lj kj lt =
          let g = new_is j lj kj in
          let w = packing.packed.least j r (omega (arith, are.count)) (omega arith) in
          let li : w.0 < n = omega (arith, are.count, w.1) in
          let ki = of_kind w.0 li w.3.0 (cases_Bool (same_kind kind (kind_at nodes w.0))) in
          let a = start_is w.0 li ki in
          let b = start_is j lj kj in
          let c = end_is w.0 li ki in
          let d = end_is j lj kj in
          let same = same_along (kind_at nodes w.0) kind (kind_at nodes j) (same_back kind (kind_at nodes w.0) ki) kj in
          (w.0, li, before_out w.0 j li lj ki kj w.2, (same, omega (arith, w.3.2.0), omega (arith, w.3.2.1)), new_is w.0 li ki ∙ w.4)

      pub bound_kind : IsBoundKind nodes starts kind old new
      bound_kind = record {
        count = taken.count;
        others = λ i l e. taken.taken i l ∙ cond-false (same_kind kind (kind_at nodes i)) (slice_index row i) (slice_index old i) e;
        apart = apart;
        least = least;
      }
