-- The intervals that have a place, and the rows that they are given.
use Rattle.std.proofs.Common.{◌≡◌, ◌≢◌, ℕ, zero, suc, ◌<◌, ◌≤◌, ◌+◌, List, [], ◌∷◌, ◌++◌, length, take, get_or, map, Bool, true, false}
use Rattle.std.proofs.Common.{nat_lt, if◌then◌else◌, refl, ap, subst, sym, ◌∙◌, ◌⊎◌, inl, inr, arith}
use Rattle.std.specs.List.{count_by, range_with_len}
use Rattle.std.proofs.lemmas.Bool.{cases_lt, cases_eq}
use Rattle.std.proofs.lemmas.List.{get_or_append_left, get_or_push, length_push}
use Rattle.std.proofs.lemmas.List.FromFn.{fill_by_all}
use Rattle.std.proofs.lemmas.List.Sums.{sum_by-cons, sum_by-append, count_by_more_yes, count_by_more_no}
use Rattle.interval_pack.specs.declared.interval.Interval.{Interval}
use Rattle.interval_pack.specs.Packing.{at, nowhere, crowd_at}
use Rattle.interval_pack.proofs.Counts.{holds, one_if}
use Rattle.interval_pack.specs.Sparse.{HasPlace}

-- ---- how many hold a place

crowd-push : (xs : List Interval) (x : Interval) (q : ℕ) → crowd_at (xs ++ x ∷ []) q ≡ crowd_at xs q + one_if (holds q x)
crowd-push xs x q =
    let a = sum_by-append (λ (b : Interval). if holds q b then 1 else 0) xs (x ∷ []) in
    let c = sum_by-cons (λ (b : Interval). if holds q b then 1 else 0) x [] in
    omega (arith, a, c)

more_if : (b : Bool) (xs : List Interval) (k q : ℕ) → k < length xs → holds q (at xs k) ≡ b → crowd_at (take (k + 1) xs) q ≡ crowd_at (take k xs) q + one_if b
more_if true xs k q l e = count_by_more_yes (holds q) xs k nowhere l e
more_if false xs k q l e = count_by_more_no (holds q) xs k nowhere l e ∙ (let n : crowd_at (take k xs) q ≡ crowd_at (take k xs) q + 0 = omega arith in n)

pub crowd-more : (xs : List Interval) (k q : ℕ) → k < length xs → crowd_at (take (k + 1) xs) q ≡ crowd_at (take k xs) q + one_if (holds q (at xs k))
crowd-more xs k q l = more_if (holds q (at xs k)) xs k q l refl

count-map : (test : Interval → Bool) (f : ℕ → Interval) (is : List ℕ) → count_by test (map f is) ≡ count_by (λ (i : ℕ). test (f i)) is
count-map test f [] = refl
count-map test f (i ∷ is) =
    sum_by-cons (λ (x : Interval). one_if (test x)) (f i) (map f is)
    ∙ (ap (λ (m : ℕ). one_if (test (f i)) + m) (count-map test f is) ∙ sym (sum_by-cons (λ (j : ℕ). one_if (test (f j))) i is))

-- how many hold a place, counted by index
pub crowd-counted : (xs : List Interval) (q : ℕ) → crowd_at xs q ≡ count_by (λ (i : ℕ). holds q (at xs i)) (range_with_len 0 (length xs))
crowd-counted xs q =
    ap (λ (r : List Interval). crowd_at r q) (fill_by_all (at xs) xs (length xs) nowhere refl (λ k l. refl)) ∙ count-map (holds q) (at xs) (range_with_len 0 (length xs))

holds_none : (q : ℕ) (a : Interval) → a.end ≤ a.start → holds q a ≡ false
holds_none q a l = grind arith

count-same_from : (f g : ℕ → Bool) (a k : ℕ) → ((i : ℕ) → i < a + k → f i ≡ g i) → count_by f (range_with_len a k) ≡ count_by g (range_with_len a k)
count-same_from f g a zero same = refl
count-same_from f g a (suc k) same =
    let rest = count-same_from f g (a + 1) k (λ i l. same i (omega arith)) in
    sum_by-cons (λ (i : ℕ). one_if (f i)) a (range_with_len (a + 1) k)
    ∙ (ap (λ (b : Bool). one_if b + count_by f (range_with_len (a + 1) k)) (same a (omega arith))
    ∙ (ap (λ (m : ℕ). one_if (g a) + m) rest ∙ sym (sum_by-cons (λ (i : ℕ). one_if (g i)) a (range_with_len (a + 1) k))))

-- tests that agree below k
pub count-same : (f g : ℕ → Bool) (k : ℕ) → ((i : ℕ) → i < k → f i ≡ g i) → count_by f (range_with_len 0 k) ≡ count_by g (range_with_len 0 k)
count-same f g k same = count-same_from f g 0 k (λ i l. same i (omega arith))

-- the intervals that have a place among the first k
pub record AreChosen (intervals : List Interval) (k : ℕ) (chosen : List ℕ) (solid : List Interval) : Type 0 where
  pub same_count : length solid ≡ length chosen
  pub rising : (a b : ℕ) → a < b → b < length chosen → get_or chosen a 0 < get_or chosen b 0
  pub below : (a : ℕ) → a < length chosen → get_or chosen a 0 < k
  pub have : (a : ℕ) → a < length chosen → HasPlace (at intervals (get_or chosen a 0))
  pub covers : (i : ℕ) → i < k → HasPlace (at intervals i) → (a : ℕ) × (a < length chosen) × (get_or chosen a 0 ≡ i)
  pub same : (a : ℕ) → a < length chosen → at solid a ≡ at intervals (get_or chosen a 0)
  pub crowd : (q : ℕ) → crowd_at solid q ≡ crowd_at (take k intervals) q

module _ (intervals : List Interval) (k : ℕ) (l : k < length intervals) (chosen : List ℕ) (solid : List Interval) (are : AreChosen intervals k chosen solid) where
  unchosen : ((at intervals k).end ≤ (at intervals k).start) → AreChosen intervals (k + 1) chosen solid
  unchosen no_place = record {
    same_count = are.same_count;
    rising = are.rising;
    below = λ a m. (let b = are.below a m in omega arith);
    have = are.have;
    covers = λ i m e. covers i m e (cases_eq i k);
    same = are.same;
    crowd = λ q.
        let c = are.crowd q in
        let m = crowd-more intervals k q l in
        let n : one_if (holds q (at intervals k)) ≡ 0 = ap one_if (holds_none q (at intervals k) no_place) in
        omega (arith, c, m, n);
  }
    where
      covers : (i : ℕ) → i < k + 1 → HasPlace (at intervals i) → (i ≡ k) ⊎ (i ≡ k → ⊥) → (a : ℕ) × (a < length chosen) × (get_or chosen a 0 ≡ i)
      covers i m e (inl q) =
          let e' : HasPlace (at intervals k) = subst (λ (z : ℕ). HasPlace (at intervals z)) q e in
          absurd (omega arith)
      covers i m e (inr n) = let n' : i ≢ k = n in are.covers i (omega arith) e

  one_chosen : HasPlace (at intervals k) → (chosen' : List ℕ) (solid' : List Interval) → chosen' ≡ chosen ++ k ∷ [] → solid' ≡ solid ++ at intervals k ∷ [] →
      AreChosen intervals (k + 1) chosen' solid'
  one_chosen e chosen' solid' p q = rw (p, q) (record {
    same_count = length_push solid (at intervals k) ∙ (omega (arith, are.same_count) ∙ sym (length_push chosen k));
    rising = λ a b ab m. rising a b ab m (cases_lt b (length chosen));
    below = λ a m. below a m (cases_lt a (length chosen));
    have = λ a m. have a m (cases_lt a (length chosen));
    covers = λ i m f. covers i m f (cases_eq i k);
    same = λ a m. same a m (cases_lt a (length chosen));
    crowd = λ z.
        let c = are.crowd z in
        let m = crowd-more intervals k z l in
        let n = crowd-push solid (at intervals k) z in
        omega (arith, c, m, n);
  })
    where
      old : (a : ℕ) → a < length chosen → get_or (chosen ++ k ∷ []) a 0 ≡ get_or chosen a 0
      old a m = get_or_append_left chosen (k ∷ []) 0 a m

      new : (a : ℕ) → a ≡ length chosen → get_or (chosen ++ k ∷ []) a 0 ≡ k
      new a f = get_or_push chosen k 0 a (sym f)

      last : (a : ℕ) → a < length (chosen ++ k ∷ []) → length chosen ≤ a → a ≡ length chosen
      last a m n = omega (arith, length_push chosen k)

      rising : (a b : ℕ) → a < b → b < length (chosen ++ k ∷ []) → (b < length chosen) ⊎ (length chosen ≤ b) → get_or (chosen ++ k ∷ []) a 0 < get_or (chosen ++ k ∷ []) b 0
      rising a b ab m (inl n) = rw (old a (omega arith), old b n) (are.rising a b ab n)
      rising a b ab m (inr n) =
          let f = last b m n in
          let la : a < length chosen = omega arith in
          rw (old a la, new b f) (are.below a la)

      below : (a : ℕ) → a < length (chosen ++ k ∷ []) → (a < length chosen) ⊎ (length chosen ≤ a) → get_or (chosen ++ k ∷ []) a 0 < k + 1
      below a m (inl n) = let b = are.below a n in rw (old a n) (omega arith)
      below a m (inr n) = rw (new a (last a m n)) (omega arith)

      have : (a : ℕ) → a < length (chosen ++ k ∷ []) → (a < length chosen) ⊎ (length chosen ≤ a) → HasPlace (at intervals (get_or (chosen ++ k ∷ []) a 0))
      have a m (inl n) = subst (λ (z : ℕ). HasPlace (at intervals z)) (sym (old a n)) (are.have a n)
      have a m (inr n) = subst (λ (z : ℕ). HasPlace (at intervals z)) (sym (new a (last a m n))) e

      covers : (i : ℕ) → i < k + 1 → HasPlace (at intervals i) → (i ≡ k) ⊎ (i ≡ k → ⊥) → (a : ℕ) × (a < length (chosen ++ k ∷ [])) × (get_or (chosen ++ k ∷ []) a 0 ≡ i)
      covers i m f (inl x) = (length chosen, omega (arith, length_push chosen k), new (length chosen) refl ∙ sym x)
      covers i m f (inr n) =
          let n' : i ≢ k = n in
          let w = are.covers i (omega arith) f in
          (w.0, omega (arith, length_push chosen k, w.1), old w.0 w.1 ∙ w.2)

      same : (a : ℕ) → a < length (chosen ++ k ∷ []) → (a < length chosen) ⊎ (length chosen ≤ a) →
          at (solid ++ at intervals k ∷ []) a ≡ at intervals (get_or (chosen ++ k ∷ []) a 0)
      same a m (inl n) =
          let lw : a < length solid = omega (arith, are.same_count) in
          rw (old a n) (get_or_append_left solid (at intervals k ∷ []) nowhere a lw ∙ are.same a n)
      same a m (inr n) =
          let f = last a m n in
          let fw : length solid ≡ a = omega (arith, are.same_count) in
          rw (new a f) (get_or_push solid (at intervals k) nowhere a fw)

  chosen_if : (b : Bool) → nat_lt (at intervals k).start (at intervals k).end ≡ b → (chosen' : List ℕ) (solid' : List Interval) →
      chosen' ≡ (if b then chosen ++ k ∷ [] else chosen) → solid' ≡ (if b then solid ++ at intervals k ∷ [] else solid) → AreChosen intervals (k + 1) chosen' solid'
  chosen_if true t chosen' solid' p q = one_chosen (let h : (at intervals k).start < (at intervals k).end = grind arith in h) chosen' solid' p q
  chosen_if false t chosen' solid' p q = rw (p, q) (unchosen (grind arith))

  pub choose_next : (chosen' : List ℕ) (solid' : List Interval) → chosen' ≡ (if nat_lt (at intervals k).start (at intervals k).end then chosen ++ k ∷ [] else chosen) →
      solid' ≡ (if nat_lt (at intervals k).start (at intervals k).end then solid ++ at intervals k ∷ [] else solid) → AreChosen intervals (k + 1) chosen' solid'
  choose_next chosen' solid' p q = chosen_if (nat_lt (at intervals k).start (at intervals k).end) refl chosen' solid' p q

pub none_chosen : (intervals : List Interval) (chosen : List ℕ) (solid : List Interval) → chosen ≡ [] → solid ≡ [] → AreChosen intervals 0 chosen solid
none_chosen intervals chosen solid p q = rw (p, q) (record {
  same_count = refl;
  rising = λ a b ab l. absurd (omega arith);
  below = λ a l. absurd (omega arith);
  have = λ a l. absurd (omega arith);
  covers = λ i l e. absurd (omega arith);
  same = λ a l. absurd (omega arith);
  crowd = λ z. refl;
})
