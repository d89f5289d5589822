-- What holds of each signal of a table holds row by row, and the other way round; and the places of rows go up.
use Rattle.std.proofs.Common.{◌≡◌, ℕ, zero, suc, ◌+◌, ◌*◌, ◌<◌, ◌≤◌, List, [], ◌∷◌, ◌++◌, length, take, Option, Some, None, slice_get, refl, sym, ap, ◌∙◌, subst, arith}
use Rattle.std.proofs.Common.{add-zero, zero-add, length-append, append_assoc, add-one}
use Rattle.std.proofs.lemmas.List.{append-nil}
use Rattle.netlist.specs.declared.netlist.Signal.{Signal}
use Rattle.netlist.specs.declared.netlist.Module.{Module}
use Rattle.circuit.specs.declared.rows.Role.{Role}
use Rattle.circuit.specs.declared.table.Form.{Form}
use Rattle.circuit.specs.declared.table.Row.{Row}
use Rattle.circuit.specs.declared.table.Row.TheVariants.{One, Each, Many, Chain, Chains}
use Rattle.circuit.specs.Table.{size_of, row_end, rows_end, place, signal_at, signals_from, row_signals, laid_from, laid}
use Rattle.circuit.proofs.Growth.{length-spread, take-next}
use Rattle.circuit.proofs.Tables.{EachFrom, each_at, each_from, EachFrom-append, EachFrom-join, each-spread, spread-each}

-- ---- places

-- how many signals a row has
abbrev pub row_size : ℕ → Row → ℕ
row_size n (One r w f) = 1
row_size n (Each r w f) = n
row_size n (Many size r w f) = size_of n size
row_size n (Chain r w first step) = 1 + n
row_size n (Chains count r w first step) = count + n * count

module _ (n : ℕ) where
  pub end_is : (at : ℕ) (r : Row) → row_end n at r ≡ at + row_size n r
  end_is at (One r w f) = refl
  end_is at (Each r w f) = refl
  end_is at (Many size r w f) = refl
  end_is at (Chain r w first step) = omega arith
  end_is at (Chains count r w first step) = omega arith

  pub rows_end-append : (at : ℕ) (xs ys : List Row) → rows_end n at (xs ++ ys) ≡ rows_end n (rows_end n at xs) ys
  rows_end-append at [] ys = refl
  rows_end-append at (x ∷ xs) ys = rows_end-append (row_end n at x) xs ys

  end_behind : (at : ℕ) (rows : List Row) → at ≤ rows_end n at rows
  end_behind at [] = omega arith
  end_behind at (r ∷ rows) = let a = end_is at r in let b = end_behind (row_end n at r) rows in omega arith

  -- the next row stands behind the whole of this one
  next_from : (at : ℕ) (rows : List Row) (k : ℕ) (r : Row) → slice_get rows k ≡ Some r → rows_end n at (take (suc k) rows) ≡ rows_end n at (take k rows) + row_size n r
  next_from at [] k r e = absurd cc
  next_from at (x ∷ rows) zero r e = let same : x ≡ r = cc in end_is at x ∙ ap (λ (y : Row). at + row_size n y) same
  next_from at (x ∷ rows) (suc k) r e = next_from (row_end n at x) rows k r e

  up_from : (at : ℕ) (rows : List Row) (j k : ℕ) → j ≤ k → rows_end n at (take j rows) ≤ rows_end n at (take k rows)
  up_from at rows zero k l = end_behind at (take k rows)
  up_from at rows (suc j) zero l = absurd (omega arith)
  up_from at [] (suc j) (suc k) l = omega arith
  up_from at (r ∷ rows) (suc j) (suc k) l = up_from (row_end n at r) rows j k (omega arith)

  -- one row more
  pub end_grows : (at to i most : ℕ) (rows : List Row) (r : Row) → slice_get rows i ≡ Some r → (at ≡ rows_end n 0 (take i rows)) × (at ≤ most * i)
      → (to ≡ row_end n at r) × (to ≤ at + most)
      → (to ≡ rows_end n 0 (take (i + 1) rows)) × (to ≤ most * (i + 1))
  end_grows at to i most rows r e h g =
      let a = end_is at r in let b = h.1 in let c = g.1 in let d : most * (i + 1) ≡ most * i + most = omega arith in (
        g.0 ∙ a ∙ ap (λ x. x + row_size n r) h.0 ∙ sym (next_from 0 rows i r e) ∙ ap (λ k. rows_end n 0 (take k rows)) (sym (add-one i)),
        (omega arith),
      )

  module _ (rows : List Row) where
    pub place_next : (k : ℕ) (r : Row) → slice_get rows k ≡ Some r → place n rows (suc k) ≡ place n rows k + row_size n r
    place_next k r e = next_from 0 rows k r e

    pub place_up : (j k : ℕ) → j ≤ k → place n rows j ≤ place n rows k
    place_up j k l = up_from 0 rows j k l

-- ---- rows

-- P of each signal of a row and its place
module _ (n : ℕ) (starts : ℕ → ℕ) (P : ℕ → Signal → Type 0) where
  abbrev pub OfMany : ℕ → ℕ → Role → ℕ → Form → Type 0
  OfMany at count r w f = (i : ℕ) → i < count → P (at + i) (signal_at n starts (at + i) r w f i)

  abbrev pub OfRow : ℕ → Row → Type 0
  OfRow at (One r w f) = P at (signal_at n starts at r w f 0)
  OfRow at (Each r w f) = OfMany at n r w f
  OfRow at (Many size r w f) = OfMany at (size_of n size) r w f
  OfRow at (Chain r w first step) = P at (signal_at n starts at r w first 0) × OfMany (at + 1) n r w step
  OfRow at (Chains count r w first step) = OfMany at count r w first × OfMany (at + count) (n * count) r w step

  -- of the row that there is, if any
  abbrev pub OfSome : ℕ → Option Row → Type 0
  OfSome at None = Unit {0}
  OfSome at (Some r) = OfRow at r

  of_many : (at count : ℕ) (r : Role) (w : ℕ) (f : Form) → EachFrom P at (signals_from n starts at count r w f) → OfMany at count r w f
  of_many at count r w f e i l =
      let s = λ (j : ℕ). signal_at n starts (at + j) r w f j in subst (λ j. P (at + i) (s j)) (zero-add i) (each-spread P s at 0 count e i l)

  to_many : (at count : ℕ) (r : Role) (w : ℕ) (f : Form) → OfMany at count r w f → EachFrom P at (signals_from n starts at count r w f)
  to_many at count r w f h =
      let s = λ (j : ℕ). signal_at n starts (at + j) r w f j in spread-each P s at 0 count (λ i l. subst (λ j. P (at + i) (s j)) (sym (zero-add i)) (h i l))

  length-many : (at count : ℕ) (r : Role) (w : ℕ) (f : Form) → length (signals_from n starts at count r w f) ≡ count
  length-many at count r w f = length-spread (λ i. signal_at n starts (at + i) r w f i) 0 count

  of_signals : (at : ℕ) (r : Row) → EachFrom P at (row_signals n starts at r) → OfRow at r
  of_signals at (One r w f) e = e.0
  of_signals at (Each r w f) e = of_many at n r w f e
  of_signals at (Many size r w f) e = of_many at (size_of n size) r w f e
  of_signals at (Chain r w first step) e = (e.0, of_many (at + 1) n r w step e.1)
  of_signals at (Chains count r w first step) e =
      let steps = signals_from n starts (at + count) (n * count) r w step in
      let p = EachFrom-append P at (signals_from n starts at count r w first) steps e in
      (of_many at count r w first p.0, of_many (at + count) (n * count) r w step (subst (λ c. EachFrom P (at + c) steps) (length-many at count r w first) p.1))

  to_signals : (at : ℕ) (r : Row) → OfRow at r → EachFrom P at (row_signals n starts at r)
  to_signals at (One r w f) h = (h, tt)
  to_signals at (Each r w f) h = to_many at n r w f h
  to_signals at (Many size r w f) h = to_many at (size_of n size) r w f h
  to_signals at (Chain r w first step) h = (h.0, to_many (at + 1) n r w step h.1)
  to_signals at (Chains count r w first step) h =
      let steps = signals_from n starts (at + count) (n * count) r w step in
      EachFrom-join P at (signals_from n starts at count r w first) steps (to_many at count r w first h.0)
      (subst (λ c. EachFrom P (at + c) steps) (sym (length-many at count r w first)) (to_many (at + count) (n * count) r w step h.1))

  long : (at : ℕ) (r : Row) → at + length (row_signals n starts at r) ≡ row_end n at r
  long at (One r w f) = refl
  long at (Each r w f) = ap (λ k. at + k) (length-many at n r w f)
  long at (Many size r w f) = ap (λ k. at + k) (length-many at (size_of n size) r w f)
  long at (Chain r w first step) = let e = length-many (at + 1) n r w step in omega arith
  long at (Chains count r w first step) =
      let a = length-append (signals_from n starts at count r w first) (signals_from n starts (at + count) (n * count) r w step) in
      let b = length-many at count r w first in let c = length-many (at + count) (n * count) r w step in omega arith

  of_laid : (at : ℕ) (rows : List Row) → EachFrom P at (laid_from n starts at rows) → (k : ℕ) → OfSome (rows_end n at (take k rows)) (slice_get rows k)
  of_laid at [] e k = tt
  of_laid at (r ∷ rows) e zero = of_signals at r (EachFrom-append P at (row_signals n starts at r) (laid_from n starts (row_end n at r) rows) e).0
  of_laid at (r ∷ rows) e (suc k) =
      of_laid (row_end n at r) rows
      (subst (λ c. EachFrom P c (laid_from n starts (row_end n at r) rows)) (long at r)
      (EachFrom-append P at (row_signals n starts at r) (laid_from n starts (row_end n at r) rows) e).1) k

  to_laid : (at : ℕ) (rows : List Row) → ((k : ℕ) → OfSome (rows_end n at (take k rows)) (slice_get rows k)) → EachFrom P at (laid_from n starts at rows)
  to_laid at [] h = tt
  to_laid at (r ∷ rows) h =
      EachFrom-join P at (row_signals n starts at r) (laid_from n starts (row_end n at r) rows) (to_signals at r (h 0))
      (subst (λ c. EachFrom P c (laid_from n starts (row_end n at r) rows)) (sym (long at r)) (to_laid (row_end n at r) rows (λ k. h (suc k))))

-- P of each row of a table, by its number
abbrev pub ByRow : (n : ℕ) (rows : List Row) → (ℕ → Signal → Type 0) → Type 0
ByRow n rows P = (k : ℕ) → OfSome n (place n rows) P (place n rows k) (slice_get rows k)

module _ (n : ℕ) (rows : List Row) (m : Module) (is : m.signals ≡ laid n rows) where
  pub by_rows : (P : ℕ → Signal → Type 0) → ((x : ℕ) (s : Signal) → slice_get m.signals x ≡ Some s → P x s) → ByRow n rows P
  by_rows P h = of_laid n (place n rows) P 0 rows (subst (EachFrom P 0) is (each_from P 0 m.signals (λ x s e. subst (λ y. P y s) (sym (zero-add x)) (h x s e))))

  pub by_signals : (P : ℕ → Signal → Type 0) → ByRow n rows P → (x : ℕ) (s : Signal) → slice_get m.signals x ≡ Some s → P x s
  by_signals P h x s q = subst (λ y. P y s) (zero-add x) (each_at P 0 m.signals (subst (EachFrom P 0) (sym is) (to_laid n (place n rows) P 0 rows h)) x s q)

  abbrev pub IsListed : ℕ → Signal → Type 0
  IsListed x s = slice_get m.signals x ≡ Some s

  pub listed : ByRow n rows IsListed
  listed = by_rows IsListed (λ x s e. e)

-- ---- lengths

pub length-row : (n : ℕ) (starts : ℕ → ℕ) (at : ℕ) (r : Row) → at + length (row_signals n starts at r) ≡ row_end n at r
length-row n starts at r = long n starts (λ x s. Unit {0}) at r

length-from : (n : ℕ) (starts : ℕ → ℕ) (at : ℕ) (rows : List Row) → at + length (laid_from n starts at rows) ≡ rows_end n at rows
length-from n starts at [] = add-zero at
length-from n starts at (r ∷ rows) =
    let a = length-append (row_signals n starts at r) (laid_from n starts (row_end n at r) rows) in
    let b = length-row n starts at r in
    let z : at + length (row_signals n starts at r ++ laid_from n starts (row_end n at r) rows) ≡ row_end n at r + length (laid_from n starts (row_end n at r) rows) = omega arith in
    z ∙ length-from n starts (row_end n at r) rows

pub length-laid : (n : ℕ) (rows : List Row) → length (laid n rows) ≡ rows_end n 0 rows
length-laid n rows = sym (zero-add (length (laid n rows))) ∙ length-from n (place n rows) 0 rows

laid-append : (n : ℕ) (starts : ℕ → ℕ) (at : ℕ) (xs ys : List Row) → laid_from n starts at (xs ++ ys) ≡ laid_from n starts at xs ++ laid_from n starts (rows_end n at xs) ys
laid-append n starts at [] ys = refl
laid-append n starts at (x ∷ xs) ys =
    ap (λ l. row_signals n starts at x ++ l) (laid-append n starts (row_end n at x) xs ys)
    ∙ sym (append_assoc (row_signals n starts at x) (laid_from n starts (row_end n at x) xs) (laid_from n starts (rows_end n (row_end n at x) xs) ys))

-- one more row
pub rows_grow : (n : ℕ) (starts : ℕ → ℕ) (b c : List Signal) (i : ℕ) (rows : List Row) (r : Row) → slice_get rows i ≡ Some r → b ≡ laid_from n starts 0 (take i rows)
    → c ≡ b ++ row_signals n starts (length b) r → c ≡ laid_from n starts 0 (take (i + 1) rows)
rows_grow n starts b c i rows r e f g =
    let before = laid_from n starts 0 (take i rows) in
    let l : length b ≡ rows_end n 0 (take i rows) = ap length f ∙ sym (zero-add (length before)) ∙ length-from n starts 0 (take i rows) in
    g ∙ ap (λ x. b ++ row_signals n starts x r) l ∙ ap (λ k. k ++ row_signals n starts (rows_end n 0 (take i rows)) r) f
    ∙ ap (λ k. before ++ k) (sym (append-nil (row_signals n starts (rows_end n 0 (take i rows)) r)))
    ∙ sym (laid-append n starts 0 (take i rows) (r ∷ []))
    ∙ ap (laid_from n starts 0) (sym (ap (λ k. take k rows) (add-one i) ∙ take-next rows i r e))

-- the signals of chains, laid one part after the other
pub chains_grow : (n : ℕ) (starts : ℕ → ℕ) (a b c : List Signal) (count : ℕ) (r : Role) (w : ℕ) (first step : Form)
    → b ≡ a ++ signals_from n starts (length a) count r w first
    → c ≡ b ++ signals_from n starts (length b) (n * count) r w step → c ≡ a ++ row_signals n starts (length a) (Chains count r w first step)
chains_grow n starts a b c count r w first step e f =
    let begun = signals_from n starts (length a) count r w first in
    let steps = λ (k : ℕ). signals_from n starts k (n * count) r w step in
    let long : length b ≡ length a + count =
    ap length e ∙ length-append a begun ∙ ap (λ k. length a + k) (length-spread (λ i. signal_at n starts (length a + i) r w first i) 0 count) in
    f ∙ ap (λ k. b ++ steps k) long ∙ ap (λ l. l ++ steps (length a + count)) e ∙ append_assoc a begun (steps (length a + count))
