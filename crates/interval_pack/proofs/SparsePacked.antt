-- What packing the intervals that have a place gives for all of them.
use Rattle.std.proofs.Common.{◌≡◌, ◌≢◌, ℕ, ◌<◌, ◌≤◌, List, length, get_or, replicate, true, ap, subst, sym, ◌∙◌, ◌⊎◌, inl, inr, arith}
use Rattle.std.specs.List.{All}
use Rattle.std.proofs.lemmas.Bool.{cases_lt, cases_eq}
use Rattle.std.proofs.lemmas.List.{get_or_default, get_or-replicate, length-replicate, take_all}
use Rattle.interval_pack.specs.declared.interval.Interval.{Interval}
use Rattle.interval_pack.specs.LeftEdge.{IsBefore}
use Rattle.interval_pack.specs.Packing.{at, nowhere, start_of, Meet, crowd_at, IsPacking}
use Rattle.interval_pack.proofs.Counts.{holds, start_held, end_held, at_most_rows, counted}
use Rattle.interval_pack.specs.Sparse.{HasPlace, Share, IsSparsePacking}
use Rattle.interval_pack.specs.Chosen.{IsRisingBelow, IsSpread}
use Rattle.interval_pack.proofs.ChosenIntervals.{AreChosen}

-- of two things one is taken before the other
either_before : (start : ℕ → ℕ) (i j : ℕ) → (i ≡ j → ⊥) → IsBefore start i j ⊎ IsBefore start j i
either_before start i j ne = by_start (cases_lt (start i) (start j)) (cases_lt (start j) (start i)) (cases_lt i j)
  where
    by_start : (start i < start j) ⊎ (start j ≤ start i) → (start j < start i) ⊎ (start i ≤ start j) → (i < j) ⊎ (j ≤ i) → IsBefore start i j ⊎ IsBefore start j i
    by_start (inl a) b c = inl (inl a)
    by_start (inr a) (inl b) c = inr (inl b)
    by_start (inr a) (inr b) (inl c) = inl (inr (omega arith, c))
    by_start (inr a) (inr b) (inr c) = let n : i ≢ j = ne in inr (inr (omega arith, omega arith))

module _ (solid : List Interval) (row : List ℕ) (rows crowded : ℕ) (packing : IsPacking solid row rows crowded) where
  -- two that hold one place have different rows
  one_each : (p i j : ℕ) → i < length solid → j < length solid → holds p (at solid i) ≡ true → holds p (at solid j) ≡ true → get_or row i 0 ≡ get_or row j 0 → i ≡ j
  one_each p i j l m a b same = by_place (cases_eq i j)
    where
      meet : (i j : ℕ) → holds p (at solid i) ≡ true → holds p (at solid j) ≡ true → Meet (at solid i) (at solid j)
      meet i j a b =
          let s = start_held p (at solid i) a in
          let e = end_held p (at solid i) a in
          let t = start_held p (at solid j) b in
          let f = end_held p (at solid j) b in
          (omega arith, omega arith)

      by_order : IsBefore (start_of solid) i j ⊎ IsBefore (start_of solid) j i → ⊥
      by_order (inl x) = packing.packed.apart i j l m x (meet i j a b) same
      by_order (inr x) = packing.packed.apart j i m l x (meet j i b a) (sym same)

      by_place : (i ≡ j) ⊎ (i ≡ j → ⊥) → i ≡ j
      by_place (inl e) = e
      by_place (inr ne) = absurd (by_order (either_before (start_of solid) i j ne))

  pub most : (p : ℕ) → crowd_at solid p ≤ rows
  most p =
      let c = counted p solid row packing.count (one_each p) rows (λ i l h. packing.below i l) in
      let a = at_most_rows p solid row packing.count (one_each p) rows in
      omega (arith, c, a)

module _ (intervals : List Interval) (chosen : List ℕ) (solid : List Interval) (are : AreChosen intervals (length intervals) chosen solid) where
  pub solid_ones : All (λ a. a.start < a.end) solid
  solid_ones a d l =
      let l' : a < length chosen = omega (arith, are.same_count) in
      let e : get_or solid a d ≡ at intervals (get_or chosen a 0) = get_or_default solid a d nowhere l ∙ are.same a l' in
      let p = are.have a l' in
      rw e (omega arith)

  pub rising_below : (rows : List ℕ) → rows ≡ replicate (length intervals) 0 → IsRisingBelow (length rows) chosen
  rising_below rows e =
      let n : length rows ≡ length intervals = ap length e ∙ length-replicate (length intervals) 0 in
      record { rising = are.rising; below = λ a l. let b = are.below a l in omega arith }

  module _ (row : List ℕ) (rows crowded : ℕ) (packing : IsPacking solid row rows crowded) (old new : List ℕ) (zeros : old ≡ replicate (length intervals) 0)
      (spread : IsSpread (length chosen) chosen row old new) where
    abbrev n : ℕ
    n = length intervals

    start_is : (a : ℕ) → a < length chosen → (at solid a).start ≡ (at intervals (get_or chosen a 0)).start
    start_is a l = ap (λ (x : Interval). x.start) (are.same a l)

    end_is : (a : ℕ) → a < length chosen → (at solid a).end ≡ (at intervals (get_or chosen a 0)).end
    end_is a l = ap (λ (x : Interval). x.end) (are.same a l)

    rising_back : (a b : ℕ) → a < length chosen → b < length chosen → get_or chosen a 0 < get_or chosen b 0 → (a < b) ⊎ (b ≤ a) → (b < a) ⊎ (a ≤ b) → a < b
    rising_back a b la lb lt (inl x) y = x
    rising_back a b la lb lt (inr x) (inl y) = let r = are.rising b a y la in absurd (omega arith)
    rising_back a b la lb lt (inr x) (inr y) =
        let e : a ≡ b = omega arith in
        let f : get_or chosen a 0 ≡ get_or chosen b 0 = ap (λ (z : ℕ). get_or chosen z 0) e in
        absurd (omega arith)

    apart_at : (a b : ℕ) → a < length chosen → b < length chosen → IsBefore (start_of intervals) (get_or chosen a 0) (get_or chosen b 0) →
        Meet (at intervals (get_or chosen a 0)) (at intervals (get_or chosen b 0)) → get_or new (get_or chosen a 0) 0 ≢ get_or new (get_or chosen b 0) 0
    apart_at a b la lb before meet =
        let wa : a < length solid = omega (arith, are.same_count) in
        let wb : b < length solid = omega (arith, are.same_count) in
        let sa = start_is a la in
        let sb = start_is b lb in
        let ea = end_is a la in
        let eb = end_is b lb in
        let h = packing.packed.apart a b wa wb (before_at before) (omega (arith, meet.0), omega (arith, meet.1)) in
        let ga = spread.given a la in
        let gb = spread.given b lb in
        λ e. h (sym ga ∙ (e ∙ gb))
      where
        before_at : IsBefore (start_of intervals) (get_or chosen a 0) (get_or chosen b 0) → IsBefore (start_of solid) a b
        before_at (inl x) = inl (omega (arith, start_is a la, start_is b lb, x))
        before_at (inr x) = inr (omega (arith, start_is a la, start_is b lb, x.0), rising_back a b la lb x.1 (cases_lt a b) (cases_lt b a))

    abbrev HasIt : ℕ → ℕ → Type 0
    HasIt j r = (i : ℕ) × (i < n) × IsBefore (start_of intervals) i j × Share intervals i j × (get_or new i 0 ≡ r)

    least_at : (b r : ℕ) → b < length chosen → r < get_or new (get_or chosen b 0) 0 → HasIt (get_or chosen b 0) r
    least_at b r lb lt =
        let wb : b < length solid = omega (arith, are.same_count) in
        let gb = spread.given b lb in
        let w = packing.packed.least b r wb (omega arith) in
        let la : w.0 < length chosen = omega (arith, are.same_count, w.1) in
        let sa = start_is w.0 la in
        let sb = start_is b lb in
        let ea = end_is w.0 la in
        let eb = end_is b lb in
        (get_or chosen w.0 0, are.below w.0 la, before_at w.0 la w.2, (are.have w.0 la, are.have b lb, (omega (arith, w.3.0), omega (arith, w.3.1))), spread.given w.0 la ∙ w.4)
      where
        before_at : (a : ℕ) (la : a < length chosen) → IsBefore (start_of solid) a b → IsBefore (start_of intervals) (get_or chosen a 0) (get_or chosen b 0)
        before_at a la (inl x) = inl (omega (arith, start_is a la, start_is b lb, x))
        before_at a la (inr x) = inr (omega (arith, start_is a la, start_is b lb, x.0), are.rising a b x.1 lb)

    zero_at : (i : ℕ) → i < n → ((a : ℕ) → a < length chosen → get_or chosen a 0 ≢ i) → get_or new i 0 ≡ 0
    zero_at i l f = spread.others i f ∙ (rw zeros (get_or-replicate {A = ℕ} n i 0 0 l))

    apart : (i j : ℕ) → i < n → j < n → IsBefore (start_of intervals) i j → Share intervals i j → get_or new i 0 ≢ get_or new j 0
    apart i j li lj before share =
        let a = are.covers i li share.0 in
        let b = are.covers j lj share.1 in
        let before' : IsBefore (start_of intervals) (get_or chosen a.0 0) (get_or chosen b.0 0) = rw (a.2, b.2) before in
        let meet' : Meet (at intervals (get_or chosen a.0 0)) (at intervals (get_or chosen b.0 0)) = rw (a.2, b.2) share.2 in
        rw (a.2, b.2) at (apart_at a.0 b.0 a.1 b.1 before' meet')

    least : (j r : ℕ) → j < n → r < get_or new j 0 → HasIt j r
    least j r lj lt = by_place (cases_lt (at intervals j).start (at intervals j).end)
      where
        by_place : ((at intervals j).start < (at intervals j).end) ⊎ ((at intervals j).end ≤ (at intervals j).start) → HasIt j r
        by_place (inl h) =
            let b = are.covers j lj h in
            let lt' : r < get_or new (get_or chosen b.0 0) 0 = rw b.2 lt in
            rw b.2 at (least_at b.0 r b.1 lt')
        by_place (inr no_place) =
            let z = zero_at j lj (λ a la e. (let h : HasPlace (at intervals j) = subst (λ (z : ℕ). HasPlace (at intervals z)) e (are.have a la) in omega arith)) in
            absurd (omega arith)

    crowd_is : (p : ℕ) → crowd_at solid p ≡ crowd_at intervals p
    crowd_is p = are.crowd p ∙ ap (λ (xs : List Interval). crowd_at xs p) (take_all (length intervals) intervals (omega arith))

    pub packed : IsSparsePacking intervals new rows crowded
    packed = record {
      count = spread.count ∙ (ap length zeros ∙ length-replicate n 0);
      packed = record { apart = apart; least = least };
      below = λ i l h.
          let a = are.covers i l h in
          let g = spread.given a.0 a.1 in
          let b = packing.below a.0 (omega (arith, are.same_count, a.1)) in
          let g' : get_or new i 0 ≡ get_or row a.0 0 = subst (λ (z : ℕ). get_or new z 0 ≡ get_or row a.0 0) a.2 g in
          omega arith;
      most = λ p. let m = most solid row rows crowded packing p in let e = crowd_is p in omega arith;
      crowd = sym (crowd_is crowded) ∙ packing.crowd;
      first = λ p l. let m = packing.first p l in let e = crowd_is p in omega arith;
    }
