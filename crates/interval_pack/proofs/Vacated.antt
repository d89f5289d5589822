-- Rows that are freed, taken again and opened.
use Rattle.std.proofs.Common.{◌≡◌, ◌≢◌, ℕ, ◌<◌, ◌≤◌, ◌+◌, List, [], ◌∷◌, ◌++◌, length, get_or, set, ap, sym, ◌∙◌, ◌⊎◌, inl, inr, arith, get_or-set_same, true}
use Rattle.std.specs.List.{All, Contains}
use Rattle.std.specs.Ordering.{nat_cmp}
use Rattle.std.specs.BTreeMap.Range.{IsLtBy}
use Rattle.std.specs.BTreeSet.{insert_key, Updates}
use Rattle.std.proofs.lemmas.Bool.{cases_eq, cases_lt}
use Rattle.std.proofs.lemmas.Cmp.{nat_cmp_total}
use Rattle.std.proofs.lemmas.Map.Lookups.{exact_unsigned}
use Rattle.std.proofs.lemmas.List.{get_or_append_left, get_or_push, length_push, length-set, get_or-set_other}
use Rattle.std.proofs.lemmas.List.Elements.{All-contains, Contains-append_right}
use Rattle.interval_pack.specs.declared.rows.Rows.{Rows}
use Rattle.interval_pack.specs.FreeRows.{AreRows, AreRowsAt, AreBusy}
use Rattle.interval_pack.proofs.KeySets.{pair_cmp, pair_total, pair_exact, cons_head, cons_cases, insert_cases, insert_head, insert_more}

abbrev IsPair : ℕ × ℕ → ℕ × ℕ → Type 0
IsPair a b = a ≡ b

pub at_later : (ends : List ℕ) (before place : ℕ) (rows : Rows) → before ≤ place → AreRows ends before rows → AreRows ends place rows
at_later ends before place rows le are = record {
  count = are.count;
  free = λ r h. (let f = are.free r h in (f.0, omega (arith, f.1)));
  busy = are.busy;
  each = are.each;
}

-- the first busy row has ended and becomes free
module _ (ends : List ℕ) (place end row : ℕ) (old new : Rows) (are : AreRows ends place old) (ended : end ≤ place) (popped : old.busy.keys ≡ (end, row) ∷ new.busy.keys)
    (keys : new.free.keys ≡ insert_key nat_cmp old.free.keys row) (updates : Updates nat_cmp old.free new.free row true) (count : new.count ≡ old.count) where
  was_busy : Contains old.busy.keys (end, row)
  was_busy = rw popped (cons_head (end, row) new.busy.keys)

  free_by : (r : ℕ) → (r ≡ row) ⊎ Contains old.free.keys r → (r < length ends) × (get_or ends r 0 ≤ place)
  free_by r (inl e) = let b = are.busy end row was_busy in rw e (b.0, omega (arith, b.1))
  free_by r (inr h) = are.free r h

  each_by : (r : ℕ) → Contains old.free.keys r ⊎ Contains old.busy.keys (get_or ends r 0, r) → Contains new.free.keys r ⊎ Contains new.busy.keys (get_or ends r 0, r)
  each_by r (inl h) = inl (insert_more nat_cmp nat_cmp_total exact_unsigned old.free new.free row updates r h)
  each_by r (inr h) = by_place (cons_cases (end, row) (get_or ends r 0, r) new.busy.keys (rw popped at h))
    where
      by_place : (IsPair (get_or ends r 0, r) (end, row)) ⊎ Contains new.busy.keys (get_or ends r 0, r) → Contains new.free.keys r ⊎ Contains new.busy.keys (get_or ends r 0, r)
      by_place (inl e) =
          let same : r ≡ row = ap (λ (p : ℕ × ℕ). p.1) e in
          inl (rw same (insert_head nat_cmp nat_cmp_total exact_unsigned old.free new.free row updates))
      by_place (inr k) = inr k

  pub one_freed : AreRows ends place new
  one_freed = record {
    count = are.count ∙ sym count;
    free = λ r h. free_by r (insert_cases nat_cmp old.free.keys new.free.keys row r keys h);
    busy = λ e r h. are.busy e r (rw popped (Contains-append_right ((end, row) ∷ []) new.busy.keys (e, r) h));
    each = λ r l. each_by r (are.each r l);
  }

module _ (ends : List ℕ) (place : ℕ) (old : Rows) (are : AreRowsAt ends place old) where
  pub all_busy : length old.free.keys ≡ 0 → AreBusy ends place (length ends)
  all_busy z q l = by_list (are.rows_are.each q l)
    where
      by_list : Contains old.free.keys q ⊎ Contains old.busy.keys (get_or ends q 0, q) → place < get_or ends q 0
      by_list (inl h) = let m = h.1 in absurd (omega arith)
      by_list (inr h) = are.later (get_or ends q 0) q h

  pub unchanged : (new : Rows) → new.free.keys ≡ old.free.keys → new.busy.keys ≡ old.busy.keys → new.count ≡ old.count → AreRowsAt ends place new
  unchanged new f b c = record {
    rows_are = record {
      count = are.rows_are.count ∙ sym c;
      free = λ r h. are.rows_are.free r (rw f at h);
      busy = λ e r h. are.rows_are.busy e r (rw b at h);
      each = λ r l. rw (f, b) (are.rows_are.each r l);
    };
    later = λ e r h. are.later e r (rw b at h);
  }

less_from_cmp : (a b : ℕ) → IsLtBy nat_cmp a b → a < b
less_from_cmp a b e = grind arith

-- the least free row is taken up to `end`
module _ (ends : List ℕ) (place end row : ℕ) (old new : Rows) (are : AreRowsAt ends place old) (popped : old.free.keys ≡ row ∷ new.free.keys) (above : All
    (IsLtBy nat_cmp row) new.free.keys) (keys : new.busy.keys ≡ insert_key pair_cmp old.busy.keys (end, row)) (updates : Updates pair_cmp old.busy new.busy (end, row) true)
    (count : new.count ≡ old.count) where
  was_free : Contains old.free.keys row
  was_free = rw popped (cons_head row new.free.keys)

  pub row_within : row < length ends
  row_within = (are.rows_are.free row was_free).0

  pub row_ended : get_or ends row 0 ≤ place
  row_ended = (are.rows_are.free row was_free).1

  still_free : (q : ℕ) → Contains new.free.keys q → row < q
  still_free q h = less_from_cmp row q (All-contains (IsLtBy nat_cmp row) new.free.keys q above h)

  pub busy_below : AreBusy ends place row
  busy_below q l = by_list (are.rows_are.each q (omega (arith, row_within)))
    where
      not_free : (q ≡ row) ⊎ Contains new.free.keys q → ⊥
      not_free (inl e) = omega arith
      not_free (inr h) = let m = still_free q h in omega arith

      by_list : Contains old.free.keys q ⊎ Contains old.busy.keys (get_or ends q 0, q) → place < get_or ends q 0
      by_list (inl h) = absurd (not_free (cons_cases row q new.free.keys (rw popped at h)))
      by_list (inr h) = are.later (get_or ends q 0) q h

  here : get_or (set ends row end) row 0 ≡ end
  here = get_or-set_same ends row end 0 row_within

  free_now : (q : ℕ) → Contains new.free.keys q → (q < length (set ends row end)) × (get_or (set ends row end) q 0 ≤ place)
  free_now q h =
      let was = are.rows_are.free q (rw popped (Contains-append_right (row ∷ []) new.free.keys q h)) in
      let m = still_free q h in
      let ne : q ≢ row = omega arith in
      let o = get_or-set_other ends row q end 0 ne in
      (omega (arith, was.0, length-set ends row end), omega (arith, was.1))

  busy_by : (e q : ℕ) → (IsPair (e, q) (end, row)) ⊎ Contains old.busy.keys (e, q) → (q < length (set ends row end)) × (get_or (set ends row end) q 0 ≡ e)
  busy_by e q (inl same) =
      let is_row : q ≡ row = ap (λ (p : ℕ × ℕ). p.1) same in
      let is_end : e ≡ end = ap (λ (p : ℕ × ℕ). p.0) same in
      rw (is_row, is_end) (omega (arith, row_within, length-set ends row end), here)
  busy_by e q (inr h) =
      let was = are.rows_are.busy e q h in
      let late = are.later e q h in
      let ne : q ≢ row = λ same. (let f : get_or ends q 0 ≡ get_or ends row 0 = ap (λ (x : ℕ). get_or ends x 0) same in omega (arith, f, was.1, late, row_ended)) in
      (omega (arith, was.0, length-set ends row end), get_or-set_other ends row q end 0 ne ∙ was.1)

  taken_each : (q : ℕ) → q < length ends → (q ≡ row) ⊎ (q ≡ row → ⊥) → Contains new.free.keys q ⊎ Contains new.busy.keys (get_or (set ends row end) q 0, q)
  taken_each q l (inl same) = rw (same, here) (inr (insert_head pair_cmp pair_total pair_exact old.busy new.busy (end, row) updates))
  taken_each q l (inr differs) = by_list (are.rows_are.each q l)
    where
      by_key : (q ≡ row) ⊎ Contains new.free.keys q → Contains new.free.keys q ⊎ Contains new.busy.keys (get_or (set ends row end) q 0, q)
      by_key (inl same) = absurd (differs same)
      by_key (inr h) = inl h

      by_list : Contains old.free.keys q ⊎ Contains old.busy.keys (get_or ends q 0, q) → Contains new.free.keys q ⊎ Contains new.busy.keys (get_or (set ends row end) q 0, q)
      by_list (inl h) = by_key (cons_cases row q new.free.keys (rw popped at h))
      by_list (inr h) =
          let ne : q ≢ row = differs in
          rw (get_or-set_other ends row q end 0 ne) (inr (insert_more pair_cmp pair_total pair_exact old.busy new.busy (end, row) updates (get_or ends q 0, q) h))

  pub one_taken : AreRows (set ends row end) place new
  one_taken = record {
    count = length-set ends row end ∙ (are.rows_are.count ∙ sym count);
    free = free_now;
    busy = λ e q h. busy_by e q (insert_cases pair_cmp old.busy.keys new.busy.keys (end, row) (e, q) keys h);
    each = λ q l. taken_each q (omega (arith, length-set ends row end)) (cases_eq q row);
  }

-- a new row up to `end`
module _ (ends : List ℕ) (place end row : ℕ) (old new : Rows) (are : AreRowsAt ends place old) (is_row : row ≡ old.count) (free : new.free.keys ≡ old.free.keys)
    (keys : new.busy.keys ≡ insert_key pair_cmp old.busy.keys (end, row)) (updates : Updates pair_cmp old.busy new.busy (end, row) true) (count : new.count ≡ old.count + 1) where
  last : length ends ≡ row
  last = are.rows_are.count ∙ sym is_row

  new_end : get_or (ends ++ end ∷ []) row 0 ≡ end
  new_end = get_or_push ends end 0 row last

  old_end : (q : ℕ) → q < length ends → get_or (ends ++ end ∷ []) q 0 ≡ get_or ends q 0
  old_end q l = get_or_append_left ends (end ∷ []) 0 q l

  opened_busy : (e q : ℕ) → (IsPair (e, q) (end, row)) ⊎ Contains old.busy.keys (e, q) → (q < length (ends ++ end ∷ [])) × (get_or (ends ++ end ∷ []) q 0 ≡ e)
  opened_busy e q (inl same) =
      let at_row : q ≡ row = ap (λ (p : ℕ × ℕ). p.1) same in
      let at_end : e ≡ end = ap (λ (p : ℕ × ℕ). p.0) same in
      rw (at_row, at_end) (omega (arith, last, length_push ends end), new_end)
  opened_busy e q (inr h) =
      let was = are.rows_are.busy e q h in
      (omega (arith, was.0, length_push ends end), old_end q was.0 ∙ was.1)

  opened_each : (q : ℕ) → q < length (ends ++ end ∷ []) → (q < length ends) ⊎ (length ends ≤ q) → Contains new.free.keys q ⊎ Contains new.busy.keys (get_or (ends ++ end ∷ []) q 0, q)
  opened_each q l (inr m) =
      let same : q ≡ row = omega (arith, last, length_push ends end) in
      rw (same, new_end) (inr (insert_head pair_cmp pair_total pair_exact old.busy new.busy (end, row) updates))
  opened_each q l (inl m) = by_list (are.rows_are.each q m)
    where
      by_list : Contains old.free.keys q ⊎ Contains old.busy.keys (get_or ends q 0, q) → Contains new.free.keys q ⊎ Contains new.busy.keys (get_or (ends ++ end ∷ []) q 0, q)
      by_list (inl h) = inl (rw free h)
      by_list (inr h) = rw (old_end q m) (inr (insert_more pair_cmp pair_total pair_exact old.busy new.busy (end, row) updates (get_or ends q 0, q) h))

  free_still : (q : ℕ) → Contains new.free.keys q → (q < length (ends ++ end ∷ [])) × (get_or (ends ++ end ∷ []) q 0 ≤ place)
  free_still q h =
      let was = are.rows_are.free q (rw free at h) in
      let o = old_end q was.0 in
      (omega (arith, was.0, length_push ends end), omega (arith, was.1))

  pub one_opened : AreRows (ends ++ end ∷ []) place new
  one_opened = record {
    count = omega (arith, length_push ends end, are.rows_are.count, count);
    free = free_still;
    busy = λ e q h. opened_busy e q (insert_cases pair_cmp old.busy.keys new.busy.keys (end, row) (e, q) keys h);
    each = λ q l. opened_each q l (cases_lt q (length ends));
  }
