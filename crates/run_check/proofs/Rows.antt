-- The clocks as rows of numbers.
use Rattle.std.proofs.Common.{◌≡◌, ◌≢◌, ℕ, zero, suc, ◌+◌, ◌≤◌, ◌<◌, List, [], ◌∷◌, ◌++◌, length, replicate, get_or, refl, ap, sym, ◌∙◌, ⊎_elim, inl, inr, arith}
use Rattle.std.specs.Prelude.{◌⊎◌, Bool, true, false, ◌&&◌, if◌then◌else◌, nat_eq, max, Vec, Option, Some, None, MatchOption, ⊤, slice_get, slice_set, slice_index}
use Rattle.std.specs.declared.alloc.Global.{Global}
use Rattle.std.proofs.lemmas.Bool.{cases_eq, cases_lt, eq-eqb, eqb-true, ne_eqb, or_left, or_right, or_cases}
use Rattle.std.proofs.lemmas.List.{get_or-set_same, get_or-set_other, get_or_past}
use Rattle.std.proofs.Math.Nat.{max-zero}
use Rattle.lists.proofs.Places.{set_there, set_elsewhere}
use Rattle.run_races.specs.Order.{is_in}
use Rattle.run_check.specs.Clocks.{Rows, items_of, row, clock, IsRaised, Hears, One, Among, IsTickedRow, Ticks, ticked}

-- what holds below the end holds everywhere
pub all_below : (xs ys : List ℕ) → ((k : ℕ) → k < length xs → slice_index xs k ≤ slice_index ys k) → (k : ℕ) → slice_index xs k ≤ slice_index ys k
all_below xs ys below k =
    ⊎_elim (λ lt. below k lt) (λ past. let none : slice_index xs k ≡ 0 = get_or_past xs k 0 past in omega (arith, none)) (cases_lt k (length xs))

pub no_row : (rows : Rows) (j : ℕ) → length rows ≤ j → slice_get rows j ≡ None
no_row [] j past = refl
no_row (x ∷ rows) zero past = absurd (omega arith)
no_row (x ∷ rows) (suc j) past = no_row rows j (omega arith)

pub all_rows_below : (rows : Rows) (ys : List ℕ) → ((k : ℕ) → k < length rows → clock rows k k ≤ slice_index ys k) → (k : ℕ) → clock rows k k ≤ slice_index ys k
all_rows_below rows ys below k =
    ⊎_elim (λ lt. below k lt)
    (λ past. let none : clock rows k k ≡ 0 = ap (λ o. slice_index (items_of o) k) (no_row rows k past) in omega (arith, none)) (cases_lt k (length rows))

-- a row once its first numbers are raised
pub record IsRaising (old new other : List ℕ) (n : ℕ) : Type 0 where
  pub below : (j : ℕ) → j < n → slice_index new j ≡ max (slice_index old j) (slice_index other j)
  pub above : (j : ℕ) → n ≤ j → slice_index new j ≡ slice_index old j

pub raised_none : (xs ys : List ℕ) → IsRaising xs xs ys 0
raised_none xs ys = record { below = λ j lt. absurd (omega arith); above = λ j le. refl }

pub raised_more : (old mid other : List ℕ) (k n : ℕ) → IsRaising old mid other k → k < length mid → n ≡ max (slice_index mid k) (slice_index other k) →
    IsRaising old (slice_set mid k n) other (k + 1)
raised_more old mid other k n x within is = record {
  below = λ j lt.
      ⊎_elim
      (λ same. ap (slice_index (slice_set mid k n)) same ∙ get_or-set_same mid k n 0 within ∙ is
      ∙ ap (λ a. max a (slice_index other k)) (x.above k (omega arith)) ∙ ap (λ i. max (slice_index old i) (slice_index other i)) (sym same))
      (λ apart. get_or-set_other mid k j n 0 apart ∙ x.below j (let ne : j ≢ k = apart in omega (arith, lt, ne)))
      (cases_eq j k);
  above = λ j le. let apart : j ≢ k = omega (arith, le) in get_or-set_other mid k j n 0 apart ∙ x.above j (omega (arith, le));
}

pub raised_all : (old new other : List ℕ) → IsRaising old new other (length new) → length new ≡ length old → length other ≤ length old → IsRaised old new other
raised_all old new other x lengths within k =
    ⊎_elim (λ lt. x.below k lt)
    (λ past. let none : slice_index other k ≡ 0 = get_or_past other k 0 (omega (arith, past, lengths, within)) in
    x.above k past ∙ sym (max-zero (slice_index old k)) ∙ ap (max (slice_index old k)) (sym none))
    (cases_lt k (length new))

max_cases : (a b : ℕ) → (max a b ≡ a) ⊎ (max a b ≡ b)
max_cases a b = ⊎_elim (λ lt. inr (omega (arith, lt))) (λ le. inl (omega (arith, le))) (cases_lt a b)

-- one row in place of another
pub row_set : (rows : Rows) (i : ℕ) (old new : Vec ℕ Global) → slice_get rows i ≡ Some old → (j : ℕ) →
    ((j ≡ i) × (row (slice_set rows i new) j ≡ new.items) × (row rows j ≡ old.items))
    ⊎ ((j ≡ i → ⊥) × (row (slice_set rows i new) j ≡ row rows j))
row_set rows i old new at j =
    ⊎_elim
    (λ same. inl (
      same,
      ap (row (slice_set rows i new)) same ∙ ap items_of (set_there rows i old new at),
      ap (row rows) same ∙ ap items_of at,
    ))
    (λ apart. inr (apart, ap items_of (set_elsewhere rows i j new (λ e. apart (sym e))))) (cases_eq j i)

pub hears_none : (Tells : ℕ → ℕ → Type 0) (clock : ℕ → ℕ → ℕ) → ((v j : ℕ) → Tells v j → ⊥) → Hears Tells clock clock
hears_none Tells clock none = record { grows = λ j k. omega arith; told = λ v j k t. absurd (none v j t); source = λ j k. inl refl }

pub hears_row : (rows : Rows) (to from : ℕ) (old new : Vec ℕ Global) → slice_get rows to ≡ Some old → IsRaised old.items new.items (row rows from) →
    Hears (One from to) (clock rows) (clock (slice_set rows to new))
hears_row rows to from old new at x = record { grows = grows; told = told; source = source }
  where
    here : (j k : ℕ) → j ≡ to → clock (slice_set rows to new) j k ≡ max (clock rows j k) (clock rows from k)
    here j k same =
        ap (λ i. clock (slice_set rows to new) i k) same ∙ ap (λ o. slice_index (items_of o) k) (set_there rows to old new at) ∙ x k
        ∙ ap (λ o. max (slice_index (items_of o) k) (clock rows from k)) (sym at) ∙ ap (λ i. max (clock rows i k) (clock rows from k)) (sym same)

    there : (j k : ℕ) → (j ≡ to → ⊥) → clock (slice_set rows to new) j k ≡ clock rows j k
    there j k apart = ap (λ o. slice_index (items_of o) k) (set_elsewhere rows to j new (λ e. apart (sym e)))

    grows : (j k : ℕ) → clock rows j k ≤ clock (slice_set rows to new) j k
    grows j k =
        ⊎_elim (λ same. let e = here j k same in omega (arith, e)) (λ apart. let e = there j k apart in omega (arith, e)) (cases_eq j to)

    told : (v j k : ℕ) → One from to v j → clock rows v k ≤ clock (slice_set rows to new) j k
    told v j k t =
        let e = here j k t.1 in
        let same : clock rows v k ≡ clock rows from k = ap (λ i. clock rows i k) t.0 in
        omega (arith, e, same)

    source : (j k : ℕ) →
        (clock (slice_set rows to new) j k ≡ clock rows j k)
        ⊎ ((v : ℕ) × One from to v j × (clock (slice_set rows to new) j k ≡ clock rows v k))
    source j k =
        ⊎_elim
        (λ same. ⊎_elim (λ e. inl (here j k same ∙ e)) (λ e. inr (from, (refl, same), here j k same ∙ e)) (max_cases (clock rows j k) (clock rows from k)))
        (λ apart. inl (there j k apart)) (cases_eq j to)

-- some of what these threads know has been told among them
pub record Shares (threads : List ℕ) (old new : ℕ → ℕ → ℕ) : Type 0 where
  pub grows : (j k : ℕ) → old j k ≤ new j k
  pub source : (j k : ℕ) → (new j k ≡ old j k) ⊎ ((v : ℕ) × Among threads v j × (new j k ≡ old v k))

shares_more : (threads : List ℕ) (old mid new : ℕ → ℕ → ℕ) (to from : ℕ) → Shares threads old mid → Hears (One from to) mid new → is_in to threads ≡ true →
    is_in from threads ≡ true → Shares threads old new
shares_more threads old mid new to from x y to_in from_in = record {
  grows = λ j k. let a = x.grows j k in let b = y.grows j k in omega (arith, a, b);
  source = λ j k.
      ⊎_elim
      (λ q. ⊎_elim (λ e. inl (q ∙ e)) (λ e. inr (e.0, e.1, q ∙ e.2)) (x.source j k))
      (λ q.
      let own : is_in j threads ≡ true = ap (λ u. is_in u threads) q.1.1 ∙ to_in in
      let at : new j k ≡ mid from k = q.2 ∙ ap (λ u. mid u k) q.1.0 in
      ⊎_elim (λ e. inr (from, (from_in, own), at ∙ e)) (λ e. inr (e.0, (e.1.0, own), at ∙ e.2)) (x.source from k)) (y.source j k);
}

pub member : (threads : List ℕ) (k : ℕ) → k < length threads → is_in (slice_index threads k) threads ≡ true
member [] k lt = absurd (omega arith)
member (x ∷ xs) zero lt = or_left (nat_eq x x) (is_in x xs) (eq-eqb x x refl)
member (x ∷ xs) (suc k) lt = or_right (nat_eq (slice_index xs k) x) (is_in (slice_index xs k) xs) (member xs k (omega arith))

place : (threads : List ℕ) (j : ℕ) → is_in j threads ≡ true → (m : ℕ) × (m < length threads) × (slice_index threads m ≡ j)
place [] j e = absurd cc
place (x ∷ xs) j e =
    ⊎_elim (λ q. (zero, omega arith, sym (eqb-true j x q)))
    (λ q. let p = place xs j q in (suc p.0, (let lt = p.1 in omega (arith, lt)), p.2)) (or_cases (nat_eq j x) (is_in j xs) e)

-- the first thread has heard what the first n have
pub record Gathers (threads : List ℕ) (old new : ℕ → ℕ → ℕ) (n : ℕ) : Type 0 where
  pub shares : Shares threads old new
  pub got : (m k : ℕ) → m < n → old (slice_index threads m) k ≤ new (slice_index threads 0) k

-- and the first n have heard it from the first one
pub record Spreads (threads : List ℕ) (old new : ℕ → ℕ → ℕ) (n : ℕ) : Type 0 where
  pub gathers : Gathers threads old new (length threads)
  pub given : (m a k : ℕ) → m < n → a < length threads → old (slice_index threads a) k ≤ new (slice_index threads m) k

pub gathers_none : (threads : List ℕ) (clock : ℕ → ℕ → ℕ) → Gathers threads clock clock 0
gathers_none threads clock = record {
  shares = record { grows = λ j k. omega arith; source = λ j k. inl refl };
  got = λ m k lt. absurd (omega (arith, lt));
}

pub gathers_more : (threads : List ℕ) (old mid new : ℕ → ℕ → ℕ) (n : ℕ) → Gathers threads old mid n → n < length threads →
    Hears (One (slice_index threads n) (slice_index threads 0)) mid new → Gathers threads old new (n + 1)
gathers_more threads old mid new n x within y = record {
  shares = shares_more threads old mid new (slice_index threads 0) (slice_index threads n) x.shares y (member threads 0 (omega arith)) (member threads n within);
  got = λ m k lt.
      ⊎_elim (λ less. let a = x.got m k less in let b = y.grows (slice_index threads 0) k in omega (arith, a, b))
      (λ at.
      let same : m ≡ n = omega (arith, at, lt) in
      let e : old (slice_index threads m) k ≡ old (slice_index threads n) k = ap (λ u. old (slice_index threads u) k) same in
      let a = x.shares.grows (slice_index threads n) k in
      let b = y.told (slice_index threads n) (slice_index threads 0) k (refl, refl) in omega (arith, e, a, b))
      (cases_lt m n);
}

pub spreads_none : (threads : List ℕ) (old new : ℕ → ℕ → ℕ) → Gathers threads old new (length threads) → Spreads threads old new 0
spreads_none threads old new x = record { gathers = x; given = λ m a k lt within. absurd (omega (arith, lt)) }

pub spreads_more : (threads : List ℕ) (old mid new : ℕ → ℕ → ℕ) (n : ℕ) → Spreads threads old mid n → n < length threads →
    Hears (One (slice_index threads 0) (slice_index threads n)) mid new → Spreads threads old new (n + 1)
spreads_more threads old mid new n x within y = record {
  gathers = record {
    shares =
        shares_more threads old mid new (slice_index threads n) (slice_index threads 0) x.gathers.shares y (member threads n within) (member threads 0 (omega arith));
    got = λ m k lt. let a = x.gathers.got m k lt in let b = y.grows (slice_index threads 0) k in omega (arith, a, b);
  };
  given = λ m a k lt in_it.
      ⊎_elim (λ less. let p = x.given m a k less in_it in let b = y.grows (slice_index threads m) k in omega (arith, p, b))
      (λ at.
      let same : m ≡ n = omega (arith, at, lt) in
      let e : new (slice_index threads m) k ≡ new (slice_index threads n) k = ap (λ u. new (slice_index threads u) k) same in
      let p = x.gathers.got a k in_it in
      let b = y.told (slice_index threads 0) (slice_index threads n) k (refl, refl) in omega (arith, e, p, b))
      (cases_lt m n);
}

pub spreads_all : (threads : List ℕ) (old new : ℕ → ℕ → ℕ) → Spreads threads old new (length threads) → Hears (Among threads) old new
spreads_all threads old new x = record {
  grows = x.gathers.shares.grows;
  told = λ v j k t.
      let a = place threads v t.0 in
      let m = place threads j t.1 in
      let p = x.given m.0 a.0 k m.1 a.1 in
      let e : old (slice_index threads a.0) k ≡ old v k = ap (λ u. old u k) a.2 in
      let q : new (slice_index threads m.0) k ≡ new j k = ap (λ u. new u k) m.2 in
      omega (arith, p, e, q);
  source = x.gathers.shares.source;
}

pub ticks_row : (rows : Rows) (i n : ℕ) (old new : Vec ℕ Global) → slice_get rows i ≡ Some old → IsTickedRow old.items new.items i n →
    Ticks rows (slice_set rows i new) i n
unfolding ticked
ticks_row rows i n old new at x = record { number = number; is = is }
  where
    own : row rows i ≡ old.items
    own = ap items_of at

    number : n ≡ clock rows i i + 1
    number = x.number ∙ ap (λ xs. slice_index xs i + 1) (sym own)

    is : (j k : ℕ) → clock (slice_set rows i new) j k ≡ (if nat_eq j i && nat_eq k i then clock rows i i + 1 else clock rows j k)
    is j k =
        ⊎_elim
        (λ (q : (j ≡ i) × (row (slice_set rows i new) j ≡ new.items) × (row rows j ≡ old.items)).
        ⊎_elim
        (λ same.
        ap (λ xs. slice_index xs k) q.1 ∙ ap (λ xs. slice_index xs k) x.is ∙ ap (slice_index (slice_set old.items i n)) same
        ∙ get_or-set_same old.items i n 0 x.within ∙ number
        ∙ sym (ap (λ b. if b then clock rows i i + 1 else clock rows j k) (both q.0 same)))
        (λ apart.
        ap (λ xs. slice_index xs k) q.1 ∙ ap (λ xs. slice_index xs k) x.is ∙ get_or-set_other old.items i k n 0 apart
        ∙ ap (λ xs. slice_index xs k) (sym q.2)
        ∙ sym (ap (λ b. if b then clock rows i i + 1 else clock rows j k) (second j apart)))
        (cases_eq k i))
        (λ q. ap (λ xs. slice_index xs k) q.1 ∙ sym (ap (λ b. if b && nat_eq k i then clock rows i i + 1 else clock rows j k) (ne_eqb j i q.0)))
        (row_set rows i old new at j)
      where
        both : j ≡ i → k ≡ i → (nat_eq j i && nat_eq k i) ≡ true
        both p q = ap (λ b. b && nat_eq k i) (eq-eqb j i p) ∙ eq-eqb k i q

        second : (u : ℕ) → (k ≡ i → ⊥) → (nat_eq u i && nat_eq k i) ≡ false
        second u apart = go (nat_eq u i)
          where
            go : (b : Bool) → (b && nat_eq k i) ≡ false
            go true = ne_eqb k i apart
            go false = refl

-- rows of zeros, and one more
pub none_heard : (rows : Rows) (new : Vec ℕ Global) → ((j k : ℕ) → clock rows j k ≡ 0) → ((k : ℕ) → slice_index new.items k ≡ 0) → (j k : ℕ) →
    clock (rows ++ new ∷ []) j k ≡ 0
none_heard [] new none zeros zero k = zeros k
none_heard [] new none zeros (suc j) k = refl
none_heard (x ∷ rows) new none zeros zero k = none 0 k
none_heard (x ∷ rows) new none zeros (suc j) k = none_heard rows new (λ i k. none (suc i) k) zeros j k

pub all_zero : (n k : ℕ) → slice_index (replicate n 0) k ≡ 0
all_zero zero k = refl
all_zero (suc n) zero = refl
all_zero (suc n) (suc k) = all_zero n k

pub get_read : {A : Type 0} (xs : List A) (i : ℕ) (x : A) → i < length xs → x ≡ get_or xs i x → slice_get xs i ≡ Some x
get_read [] i x lt e = absurd (omega arith)
get_read (y ∷ xs) zero x lt e = ap Some (sym e)
get_read (y ∷ xs) (suc i) x lt e = get_read xs i x (omega arith) e

pub ticks_option : (rows : Rows) (i : ℕ) (old new : Vec ℕ Global) (o : Option ℕ) → slice_get rows i ≡ Some old →
    MatchOption o ⊤ (λ n. IsTickedRow old.items new.items i n) → MatchOption o ⊤ (λ n. Ticks rows (slice_set rows i new) i n)
ticks_option rows i old new None at x = x
ticks_option rows i old new (Some n) at x = ticks_row rows i n old new at x
