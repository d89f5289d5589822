-- The first intervals packed.
use Rattle.std.proofs.Common.{◌≡◌, ◌≢◌, ℕ, ◌<◌, ◌≤◌, ◌+◌, List, [], ◌∷◌, ◌++◌, length, get_or, set, refl, ap, subst, sym, ◌∙◌, ◌⊎◌, inl, inr, arith, get_or-set_other, get_or-set_same, true}
use Rattle.std.specs.List.{All}
use Rattle.std.proofs.lemmas.Bool.{cases_lt, cases_eq}
use Rattle.std.proofs.lemmas.List.{get_or_append_left, get_or_push, length_push, length-set}
use Rattle.interval_pack.specs.declared.interval.Interval.{Interval}
use Rattle.interval_pack.specs.Packing.{at, nowhere, start_of, Meet, IsPacking, crowd_at}
use Rattle.interval_pack.specs.LeftEdge.{IsBefore}
use Rattle.interval_pack.specs.Order.{key, IsOrder, IsPut}
use Rattle.interval_pack.proofs.Counts.{holds, holds_from, start_held, end_held, counted, at_most_rows, all_rows}

module _ (intervals : List Interval) (keys : List (ℕ × ℕ)) where
  abbrev pub item : ℕ → Interval
  item a = at intervals (key keys a).1

  abbrev pub row_of : List ℕ → ℕ → ℕ
  row_of row a = get_or row (key keys a).1 0

  -- interval a opened the last row, at the place `crowded`
  pub record Opened (k : ℕ) (row : List ℕ) (rows : ℕ) (crowded : ℕ) : Type 0 where
    pub by : ℕ
    pub within : by < k
    pub last : row_of row by + 1 ≡ rows
    pub place : (item by).start ≡ crowded
    pub first : (b : ℕ) → b < by → row_of row b + 1 < rows

  pub record Packed (k : ℕ) (row : List ℕ) (ends : List ℕ) (crowded : ℕ) : Type 0 where
    pub count : length row ≡ length intervals
    pub apart : (a b : ℕ) → a < b → b < k → Meet (item a) (item b) → row_of row a ≢ row_of row b
    pub least : (b r : ℕ) → b < k → r < row_of row b → (a : ℕ) × (a < b) × Meet (item a) (item b) × (row_of row a ≡ r)
    pub below : (a : ℕ) → a < k → row_of row a < length ends
    pub last : (r : ℕ) → r < length ends → (a : ℕ) × (a < k) × (row_of row a ≡ r) × ((item a).end ≡ get_or ends r 0)
    pub longest : (a : ℕ) → a < k → (item a).end ≤ get_or ends (row_of row a) 0
    pub opened : ((length ends ≡ 0) × (crowded ≡ 0)) ⊎ Opened k row (length ends) crowded

  -- the next interval takes row r
  pub record Takes (k : ℕ) (ends : List ℕ) (r : ℕ) (new : List ℕ) : Type 0 where
    pub in_reach : r ≤ length ends
    pub busy : (q : ℕ) → q < r → (item k).start < get_or ends q 0
    pub free : r < length ends → get_or ends r 0 ≤ (item k).start
    pub longer : length ends ≤ length new
    pub within : r < length new
    pub here : get_or new r 0 ≡ (item k).end
    pub others : (q : ℕ) → q ≢ r → q < length new → (q < length ends) × (get_or new q 0 ≡ get_or ends q 0)

  module _ (order : IsOrder intervals keys) (solid : All (λ a. a.start < a.end) intervals) (k : ℕ) (l : k < length keys) where
    pub sooner : (a : ℕ) → a < k → (item a).start ≤ (item k).start
    sooner a m = by_order (order.rising a k m l)
      where
        by_order : ((key keys a).0 < (key keys k).0) ⊎ (((key keys a).0 ≡ (key keys k).0) × ((key keys a).1 < (key keys k).1)) → (item a).start ≤ (item k).start
        by_order (inl h) = omega (arith, order.start a (omega arith), order.start k l, h)
        by_order (inr h) = omega (arith, order.start a (omega arith), order.start k l, h.0)

    elsewhere : (a : ℕ) → a < k → (key keys a).1 ≢ (key keys k).1
    elsewhere a m e = by_order (order.rising a k m l)
      where
        by_order : ((key keys a).0 < (key keys k).0) ⊎ (((key keys a).0 ≡ (key keys k).0) × ((key keys a).1 < (key keys k).1)) → ⊥
        by_order (inl h) =
            let s : (at intervals (key keys a).1).start ≡ (at intervals (key keys k).1).start = ap (λ (i : ℕ). (at intervals i).start) e in
            omega (arith, order.start a (omega arith), order.start k l, h, s)
        by_order (inr h) = omega (arith, h.1, e)

    nonempty : (item k).start < (item k).end
    nonempty = solid (key keys k).1 nowhere (order.index k l)

    module _ (row ends : List ℕ) (crowded : ℕ) (packed : Packed k row ends crowded) (r : ℕ) (new : List ℕ) (takes : Takes k ends r new) where
      abbrev row' : List ℕ
      row' = set row (key keys k).1 r

      same_row : (a : ℕ) → a < k → row_of row' a ≡ row_of row a
      same_row a m = let ne : (key keys a).1 ≢ (key keys k).1 = elsewhere a m in get_or-set_other row (key keys k).1 (key keys a).1 r 0 ne

      its_row : row_of row' k ≡ r
      its_row = let w : (key keys k).1 < length row = omega (arith, order.index k l, packed.count) in get_or-set_same row (key keys k).1 r 0 w

      apart' : (a b : ℕ) → a < b → b < k + 1 → Meet (item a) (item b) → (b < k) ⊎ (k ≤ b) → row_of row' a ≢ row_of row' b
      apart' a b ab bk m (inl h) =
          let p = packed.apart a b ab h m in
          let x = same_row a (omega arith) in
          let y = same_row b h in
          λ e. p (sym x ∙ (e ∙ y))
      apart' a b ab bk m (inr h) =
          let e : b ≡ k = omega arith in
          let ak : a < k = omega arith in
          let m' : Meet (item a) (item k) = subst (λ (x : ℕ). Meet (item a) (item x)) e m in
          let x = same_row a ak in
          let y : row_of row' b ≡ r = ap (λ (z : ℕ). row_of row' z) e ∙ its_row in
          λ f. (let same : row_of row a ≡ r = sym x ∙ (f ∙ y) in
          let w = packed.below a ak in
          let free = takes.free (omega arith) in
          let long : (item a).end ≤ get_or ends r 0 = rw same at (packed.longest a ak) in
          omega (arith, m'.1, long, free))

      least' : (b q : ℕ) → b < k + 1 → q < row_of row' b → (b < k) ⊎ (k ≤ b) → (a : ℕ) × (a < b) × Meet (item a) (item b) × (row_of row' a ≡ q)
      least' b q bk lt (inl h) =
          let y = same_row b h in
          let w = packed.least b q h (omega arith) in
          (w.0, w.1, w.2, same_row w.0 (omega (arith, w.1)) ∙ w.3)
      least' b q bk lt (inr h) =
          let e : b ≡ k = omega arith in
          let y : row_of row' b ≡ r = ap (λ (z : ℕ). row_of row' z) e ∙ its_row in
          let qr : q < r = omega arith in
          let w = packed.last q (omega (arith, takes.in_reach)) in
          let busy = takes.busy q qr in
          let ne = nonempty in
          let early = sooner w.0 w.1 in
          let m : Meet (item w.0) (item k) = (omega arith, omega (arith, w.3)) in
          let m' : Meet (item w.0) (item b) = subst (λ (x : ℕ). Meet (item w.0) (item x)) (sym e) m in
          (w.0, omega (arith, w.1), m', same_row w.0 w.1 ∙ w.2)

      below' : (a : ℕ) → a < k + 1 → (a < k) ⊎ (k ≤ a) → row_of row' a < length new
      below' a m (inl h) = let x = same_row a h in let b = packed.below a h in omega (arith, takes.longer)
      below' a m (inr h) =
          let e : a ≡ k = omega arith in
          let y : row_of row' a ≡ r = ap (λ (z : ℕ). row_of row' z) e ∙ its_row in
          omega (arith, takes.within)

      last' : (q : ℕ) → q < length new → (q ≡ r) ⊎ (q ≡ r → ⊥) → (a : ℕ) × (a < k + 1) × (row_of row' a ≡ q) × ((item a).end ≡ get_or new q 0)
      last' q m (inl e) = (k, omega arith, its_row ∙ sym e, sym takes.here ∙ ap (λ (z : ℕ). get_or new z 0) (sym e))
      last' q m (inr ne) =
          let ne' : q ≢ r = ne in
          let o = takes.others q ne' m in
          let w = packed.last q o.0 in
          (w.0, omega (arith, w.1), same_row w.0 w.1 ∙ w.2, w.3 ∙ sym o.1)

      longest_by : (a : ℕ) → a < k → (row_of row a ≡ r) ⊎ (row_of row a ≡ r → ⊥) → (item a).end ≤ get_or new (row_of row a) 0
      longest_by a h (inl e) =
          let b = packed.below a h in
          let free = takes.free (omega arith) in
          let long : (item a).end ≤ get_or ends r 0 = rw e at (packed.longest a h) in
          let n = nonempty in
          let t = takes.here in
          rw e (omega arith)
      longest_by a h (inr ne) =
          let ne' : row_of row a ≢ r = ne in
          let o = takes.others (row_of row a) ne' (omega (arith, packed.below a h, takes.longer)) in
          omega (arith, packed.longest a h, o.1)

      longest' : (a : ℕ) → a < k + 1 → (a < k) ⊎ (k ≤ a) → (item a).end ≤ get_or new (row_of row' a) 0
      longest' a m (inl h) = rw (same_row a h) (longest_by a h (cases_eq (row_of row a) r))
      longest' a m (inr h) =
          let e : a ≡ k = omega arith in
          let t : (item k).end ≤ get_or new (row_of row' k) 0 = rw its_row (omega (arith, takes.here)) in
          subst (λ (z : ℕ). (item z).end ≤ get_or new (row_of row' z) 0) (sym e) t

      still_opened : length new ≡ length ends → ((length ends ≡ 0) × (crowded ≡ 0)) ⊎ Opened k row (length ends) crowded
          → ((length new ≡ 0) × (crowded ≡ 0)) ⊎ Opened (k + 1) row' (length new) crowded
      still_opened e (inl h) = inl (omega (arith, h.0), h.1)
      still_opened e (inr o) = inr (record {
        by = o.by;
        within = omega (arith, o.within);
        last = rw (same_row o.by o.within, e) o.last;
        place = o.place;
        first = λ b m. rw (same_row b (omega (arith, o.within)), e) (o.first b m);
      })

      newly_opened : r ≡ length ends → length new ≡ length ends + 1 → Opened (k + 1) row' (length new) (item k).start
      newly_opened e f = record {
        by = k;
        within = omega arith;
        last = rw its_row (omega arith);
        place = refl;
        first = λ b m. (let x = same_row b m in let y = packed.below b m in omega arith);
      }

      pub with_crowd : (place : ℕ) → ((length new ≡ 0) × (place ≡ 0)) ⊎ Opened (k + 1) row' (length new) place → Packed (k + 1) row' new place
      with_crowd place o = record {
        count = length-set row (key keys k).1 r ∙ packed.count;
        apart = λ a b ab bk m. apart' a b ab bk m (cases_lt b k);
        least = λ b q bk lt. least' b q bk lt (cases_lt b k);
        below = λ a m. below' a m (cases_lt a k);
        last = λ q m. last' q m (cases_eq q r);
        longest = λ a m. longest' a m (cases_lt a k);
        opened = o;
      }

      pub old_row : length new ≡ length ends → Packed (k + 1) row' new crowded
      old_row e = with_crowd crowded (still_opened e packed.opened)

      pub new_row : r ≡ length ends → length new ≡ length ends + 1 → Packed (k + 1) row' new (item k).start
      new_row e f = with_crowd (item k).start (inr (newly_opened e f))

    pub takes_free : (ends : List ℕ) (r : ℕ) → r < length ends → get_or ends r 0 ≤ (item k).start → ((q : ℕ) → q < r → (item k).start < get_or ends q 0) → Takes k ends r (set ends r (item k).end)
    takes_free ends r m free busy = record {
      in_reach = omega arith;
      busy = busy;
      free = λ _. free;
      longer = omega (arith, length-set ends r (item k).end);
      within = omega (arith, length-set ends r (item k).end);
      here = get_or-set_same ends r (item k).end 0 m;
      others = λ q ne w. (omega (arith, length-set ends r (item k).end), get_or-set_other ends r q (item k).end 0 ne);
    }

    pub takes_new : (ends : List ℕ) → ((q : ℕ) → q < length ends → (item k).start < get_or ends q 0) → Takes k ends (length ends) (ends ++ (item k).end ∷ [])
    takes_new ends busy = record {
      in_reach = omega arith;
      busy = busy;
      free = λ h. absurd (omega arith);
      longer = omega (arith, length_push ends (item k).end);
      within = omega (arith, length_push ends (item k).end);
      here = get_or_push ends (item k).end 0 (length ends) refl;
      others = λ q ne w. (let lt : q < length ends = omega (arith, length_push ends (item k).end) in (lt, get_or_append_left ends ((item k).end ∷ []) 0 q lt));
    }

  module _ (order : IsOrder intervals keys) (solid : All (λ a. a.start < a.end) intervals) (row ends : List ℕ) (crowded : ℕ) (packed : Packed (length keys) row ends crowded) where
    starts_at : (a : ℕ) → a < length keys → (item a).start ≡ (key keys a).0
    starts_at a l = sym (order.start a l)

    -- where an interval stands in the order
    comes_first : (a b : ℕ) → a < length keys → b < length keys → IsBefore (start_of intervals) (key keys a).1 (key keys b).1 → a < b
    comes_first a b la lb before = by_place (cases_lt a b)
      where
        later : (b < a) → IsBefore (start_of intervals) (key keys a).1 (key keys b).1 → ((key keys b).0 < (key keys a).0) ⊎ (((key keys b).0 ≡ (key keys a).0) × ((key keys b).1 < (key keys a).1)) → ⊥
        later m (inl x) (inl y) = omega (arith, order.start a la, order.start b lb, x, y)
        later m (inl x) (inr y) = omega (arith, order.start a la, order.start b lb, x, y.0)
        later m (inr x) (inl y) = omega (arith, order.start a la, order.start b lb, x.0, y)
        later m (inr x) (inr y) = omega (arith, x.1, y.1)

        not_same : a ≡ b → IsBefore (start_of intervals) (key keys a).1 (key keys b).1 → ⊥
        not_same e (inl x) = let s : (item a).start ≡ (item b).start = ap (λ (z : ℕ). (item z).start) e in omega (arith, x, s)
        not_same e (inr x) = let s : (key keys a).1 ≡ (key keys b).1 = ap (λ (z : ℕ). (key keys z).1) e in omega (arith, x.1, s)

        by_other : (b < a) ⊎ (a ≤ b) → b ≤ a → a < b
        by_other (inl m) le = absurd (later m before (order.rising b a m la))
        by_other (inr m) le = let e : a ≡ b = omega arith in absurd (not_same e before)

        by_place : (a < b) ⊎ (b ≤ a) → a < b
        by_place (inl m) = m
        by_place (inr m) = by_other (cases_lt b a) m

    goes_before : (a b : ℕ) → a < b → b < length keys → IsBefore (start_of intervals) (key keys a).1 (key keys b).1
    goes_before a b ab lb = by_order (order.rising a b ab lb)
      where
        by_order : ((key keys a).0 < (key keys b).0) ⊎ (((key keys a).0 ≡ (key keys b).0) × ((key keys a).1 < (key keys b).1)) → IsBefore (start_of intervals) (key keys a).1 (key keys b).1
        by_order (inl x) = inl (omega (arith, order.start a (omega arith), order.start b lb))
        by_order (inr x) = inr (omega (arith, order.start a (omega arith), order.start b lb, x.0), x.1)

    final_apart : (i j : ℕ) → i < length intervals → j < length intervals → IsBefore (start_of intervals) i j → Meet (at intervals i) (at intervals j) → get_or row i 0 ≢ get_or row j 0
    final_apart i j li lj before meet =
        let a = order.covers i li in
        let b = order.covers j lj in
        let before' : IsBefore (start_of intervals) (key keys a.0).1 (key keys b.0).1 = rw (a.2, b.2) before in
        let ab = comes_first a.0 b.0 a.1 b.1 before' in
        let meet' : Meet (item a.0) (item b.0) = rw (a.2, b.2) meet in
        let h : get_or row (key keys a.0).1 0 ≢ get_or row (key keys b.0).1 0 = packed.apart a.0 b.0 ab b.1 meet' in
        rw (a.2, b.2) at h

    final_least : (j r : ℕ) → j < length intervals → r < get_or row j 0 → (i : ℕ) × (i < length intervals) × IsBefore (start_of intervals) i j × Meet (at intervals i)
        (at intervals j) × (get_or row i 0 ≡ r)
    final_least j r lj lt =
        let b = order.covers j lj in
        let lt' : r < row_of row b.0 = rw b.2 lt in
        let w = packed.least b.0 r b.1 lt' in
        let before : IsBefore (start_of intervals) (key keys w.0).1 j = rw b.2 at (goes_before w.0 b.0 w.1 b.1) in
        let meet : Meet (item w.0) (at intervals j) = rw b.2 at w.2 in
        ((key keys w.0).1, order.index w.0 (omega (arith, w.1, b.1)), before, meet, w.3)

    final_below : (i : ℕ) → i < length intervals → get_or row i 0 < length ends
    final_below i li = let a = order.covers i li in let h : row_of row a.0 < length ends = packed.below a.0 a.1 in rw a.2 at h

    before_or : (i j : ℕ) → ((at intervals i).start < (at intervals j).start) ⊎ ((at intervals j).start ≤ (at intervals i).start)
        → ((at intervals j).start < (at intervals i).start) ⊎ ((at intervals i).start ≤ (at intervals j).start) → (i < j) ⊎ (j ≤ i)
        → (IsBefore (start_of intervals) i j) ⊎ ((i ≡ j) ⊎ IsBefore (start_of intervals) j i)
    before_or i j (inl x) y z = inl (inl x)
    before_or i j (inr x) (inl y) z = inr (inr (inl y))
    before_or i j (inr x) (inr y) (inl z) = inl (inr (omega arith, z))
    before_or i j (inr x) (inr y) (inr z) = by_index (cases_eq i j)
      where
        by_index : (i ≡ j) ⊎ (i ≡ j → ⊥) → (IsBefore (start_of intervals) i j) ⊎ ((i ≡ j) ⊎ IsBefore (start_of intervals) j i)
        by_index (inl e) = inr (inl e)
        by_index (inr ne) = let ne' : i ≢ j = ne in inr (inr (inr (omega arith, omega arith)))

    one : (p i j : ℕ) → i < length intervals → j < length intervals → holds p (at intervals i) ≡ true → holds p (at intervals j) ≡ true → get_or row i 0 ≡ get_or row j 0 → i ≡ j
    one p i j li lj hi hj same = by_order (before_or i j (cases_lt (at intervals i).start (at intervals j).start) (cases_lt (at intervals j).start (at intervals i).start) (cases_lt i j))
      where
        meet : Meet (at intervals i) (at intervals j)
        meet = (omega (arith, start_held p (at intervals i) hi, end_held p (at intervals j) hj), omega (arith, start_held p (at intervals j) hj, end_held p (at intervals i) hi))

        by_order : (IsBefore (start_of intervals) i j) ⊎ ((i ≡ j) ⊎ IsBefore (start_of intervals) j i) → i ≡ j
        by_order (inl b) = absurd (final_apart i j li lj b meet same)
        by_order (inr (inl e)) = e
        by_order (inr (inr b)) = absurd (final_apart j i lj li b (meet.1, meet.0) (sym same))

    witness : (o : Opened (length keys) row (length ends) crowded) → (r : ℕ) → r < length ends → (r < row_of row o.by) ⊎ (row_of row o.by ≤ r)
        → (i : ℕ) × (i < length intervals) × (holds crowded (at intervals i) ≡ true) × (get_or row i 0 ≡ r)
    witness o r l (inl m) =
        let w = packed.least o.by r o.within m in
        let lw : w.0 < length keys = omega (arith, w.1, o.within) in
        let early : (item w.0).start ≤ (item o.by).start = sooner order solid o.by o.within w.0 w.1 in
        let meet = w.2 in
        ((key keys w.0).1, order.index w.0 lw, holds_from crowded (item w.0) (omega (arith, o.place)) (omega (arith, o.place, meet.1)), w.3)
    witness o r l (inr m) =
        let e : row_of row o.by ≡ r = omega (arith, o.last) in
        let ne = nonempty order solid o.by o.within in
        ((key keys o.by).1, order.index o.by o.within, holds_from crowded (item o.by) (omega (arith, o.place)) (omega (arith, o.place)), e)

    crowd_by : ((length ends ≡ 0) × (crowded ≡ 0)) ⊎ Opened (length keys) row (length ends) crowded → crowd_at intervals crowded ≡ length ends
    crowd_by (inl h) =
        let c = counted crowded intervals row packed.count (one crowded) (length ends) (λ i l e. final_below i l) in
        let m = at_most_rows crowded intervals row packed.count (one crowded) (length ends) in
        omega (arith, h.0)
    crowd_by (inr o) =
        counted crowded intervals row packed.count (one crowded) (length ends) (λ i l e. final_below i l)
        ∙ all_rows crowded intervals row packed.count (one crowded) (length ends) (λ r l. witness o r l (cases_lt r (row_of row o.by)))

    first_by : ((length ends ≡ 0) × (crowded ≡ 0)) ⊎ Opened (length keys) row (length ends) crowded → (p : ℕ) → p < crowded → crowd_at intervals p < length ends
    first_by (inl h) p l = absurd (omega (arith, h.1))
    first_by (inr o) p l =
        let c = counted p intervals row packed.count (one p) (row_of row o.by) (λ i li e. early i li e) in
        let m = at_most_rows p intervals row packed.count (one p) (row_of row o.by) in
        omega (arith, o.last)
      where
        early : (i : ℕ) → i < length intervals → holds p (at intervals i) ≡ true → get_or row i 0 < row_of row o.by
        early i li e =
            let a = order.covers i li in
            let s : (at intervals i).start ≤ p = start_held p (at intervals i) e in
            let s' : (item a.0).start ≤ p = rw a.2 s in
            let before : IsBefore (start_of intervals) (key keys a.0).1 (key keys o.by).1 = inl (omega (arith, o.place)) in
            let ab = comes_first a.0 o.by a.1 o.within before in
            let f : row_of row a.0 + 1 < length ends = o.first a.0 ab in
            let f' : get_or row i 0 + 1 < length ends = rw a.2 at f in
            omega (arith, o.last)

    pub is_packing : IsPacking intervals row (length ends) crowded
    is_packing = record {
      count = packed.count;
      packed = record { apart = final_apart; least = final_least };
      below = final_below;
      crowd = crowd_by packed.opened;
      first = first_by packed.opened;
    }

pub start_packed : (intervals : List Interval) (keys : List (ℕ × ℕ)) (row ends : List ℕ) → length row ≡ length intervals → ends ≡ [] → Packed intervals keys 0 row ends 0
start_packed intervals keys row ends n e =
    let z : length ends ≡ 0 = rw e refl in
    record {
      count = n;
      apart = λ a b ab bk m. absurd (omega arith);
      least = λ b r bk lt. absurd (omega arith);
      below = λ a m. absurd (omega arith);
      last = λ r m. absurd (omega arith);
      longest = λ a m. absurd (omega arith);
      opened = inl (z, refl);
    }

module _ (intervals : List Interval) (keys : List (ℕ × ℕ)) (order : IsOrder intervals keys) (solid : All (λ a. a.start < a.end) intervals) (k : ℕ) (l : k < length keys)
    (row ends : List ℕ) (crowded : ℕ) (packed : Packed intervals keys k row ends crowded) (row' ends' : List ℕ) (crowded' : ℕ) where
  put_by : (r : ℕ) → row' ≡ set row (key keys k).1 r → ((q : ℕ) → q < r → (item intervals keys k).start < get_or ends q 0)
      → ((r < length ends) × (get_or ends r 0 ≤ (item intervals keys k).start) × (ends' ≡ set ends r (item intervals keys k).end) × (crowded' ≡ crowded)) ⊎ ((r ≡ length ends) ×
      (ends' ≡ ends ++ (item intervals keys k).end ∷ []) × (crowded' ≡ (item intervals keys k).start)) → Packed intervals keys (k + 1) row' ends' crowded'
  put_by r e busy (inl h) =
      rw (e, h.2, h.3) (old_row intervals keys order solid k l row ends crowded packed r _ (takes_free intervals keys order solid k l ends r h.0 h.1 busy) (length-set ends r
      (item intervals keys k).end))
  put_by r e busy (inr h) =
      let busy' : (q : ℕ) → q < length ends → (item intervals keys k).start < get_or ends q 0 = λ q m. busy q (omega (arith, h.0)) in
      rw (e, h.0, h.1, h.2) (new_row intervals keys order solid k l row ends crowded packed (length ends) _ (takes_new intervals keys order solid k l ends busy') refl
      (length_push ends (item intervals keys k).end))

  pub put_packed : IsPut (key keys k).1 (item intervals keys k) row ends crowded row' ends' crowded' → Packed intervals keys (k + 1) row' ends' crowded'
  put_packed p = put_by p.0 p.1 p.2 p.3
