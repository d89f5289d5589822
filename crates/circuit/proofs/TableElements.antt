-- What a table's test says of each signal of its rows.
use Rattle.std.proofs.Common.{◌≡◌, ℕ, zero, suc, ◌+◌, ◌*◌, ◌<◌, ◌≤◌, Bool, true, false, nat_eq, nat_lt, if◌then◌else◌, List, [], ◌∷◌, Option, Some, None, slice_get}
use Rattle.std.proofs.Common.{refl, sym, ◌∙◌, subst, arith, add-zero}
use Rattle.std.specs.Prelude.{not, ◌&&◌, nat_le}
use Rattle.std.proofs.lemmas.Bool.{ltb-true, leb-true, eqb-true, not-true}
use Rattle.std.proofs.lemmas.Bool.Decides.{nat_tests}
use Rattle.std.proofs.Math.Nat.{mul-le-mul_right}
use Rattle.verilog_tree.proofs.Tests.{and_left, and_right}
use Rattle.netlist.specs.declared.netlist.Signal.{Signal}
use Rattle.circuit.specs.declared.rows.Role.{Role}
use Rattle.circuit.specs.declared.table.Size.{Size}
use Rattle.circuit.specs.declared.table.Size.TheVariants.{Fixed, PerThread}
use Rattle.circuit.specs.declared.table.Form.{Form}
use Rattle.circuit.specs.declared.table.Row.{Row}
use Rattle.circuit.specs.declared.table.Row.TheVariants.{One, Each, Many, Chain, Chains}
use Rattle.circuit.specs.Rows.{is_clock}
use Rattle.circuit.specs.Modules.{is_between}
use Rattle.circuit.specs.Table.{is_output, size_of, place, signal_at}
use Rattle.circuit.specs.Fits.{first_where, form_is, is_input, is_register, inputs, registers, outputs, only_width, most, Words, Reader, agree, is_wide}
use Rattle.circuit.specs.Fits.{stands, form_fits, many_fit, chains_fit, row_fits, rows_fit, fits}
use Rattle.circuit.proofs.TableRows.{row_size, place_next, place_up, OfMany, OfRow, OfSome, ByRow}

-- ---- tests

pub agree_is : (a b : Bool) → agree a b ≡ true → a ≡ b
agree_is true b e = sym e
agree_is false true e = absurd cc
agree_is false false e = refl

pub two : (a b : Bool) → (a && b) ≡ true → (a ≡ true) × (b ≡ true)
two a b e = (and_left a b e, and_right a b e)

pub three : (a b c : Bool) → (a && (b && c)) ≡ true → (a ≡ true) × (b ≡ true) × (c ≡ true)
three a b c e = let f = and_right a (b && c) e in (and_left a (b && c) e, and_left b c f, and_right b c f)

pub four : (a b c d : Bool) → (a && (b && (c && d))) ≡ true → (a ≡ true) × (b ≡ true) × (c ≡ true) × (d ≡ true)
four a b c d e = let f = three b c d (and_right a (b && (c && d)) e) in (and_left a (b && (c && d)) e, f.0, f.1, f.2)

-- the rows before the first that passes a test
abbrev pub IsBefore : (Row → Bool) → List Row → ℕ → Type 0
IsBefore p rows k = (r : Row) × (slice_get rows k ≡ Some r) × (p r ≡ false)

before_step : (p : Row → Bool) (x : Row) (rows : List Row) (b : Bool) → p x ≡ b → ((j : ℕ) → j < first_where p rows → IsBefore p rows j)
    → (k : ℕ) → k < (if b then 0 else suc (first_where p rows)) → IsBefore p (x ∷ rows) k
before_step p x rows true e rest k l = absurd (omega arith)
before_step p x rows false e rest zero l = (x, refl, e)
before_step p x rows false e rest (suc k) l = let h = rest k (omega arith) in (h.0, h.1, h.2)

pub before_first : (p : Row → Bool) (rows : List Row) (k : ℕ) → k < first_where p rows → IsBefore p rows k
before_first p [] k l = absurd (omega arith)
before_first p (x ∷ rows) k l = before_step p x rows (p x) refl (before_first p rows) k l

-- ---- sizes

-- how many signals a row has; none is the size of one for each thread
abbrev pub count_of : ℕ → Option Size → ℕ
count_of n None = n
count_of n (Some size) = size_of n size

pub at_most : (n : ℕ) → n ≤ 64 → (size : Option Size) → count_of n size ≤ most size
at_most n few None = few
at_most n few (Some (Fixed count)) = omega arith
at_most n few (Some (PerThread count)) = mul-le-mul_right count few

some_chain : (n i count : ℕ) → i < n * count → 0 < count
some_chain n i zero l = absurd (omega arith)
some_chain n i (suc count) l = omega arith

-- ---- the signals of rows

module _ (n : ℕ) (few : n ≤ 64) (late : ℕ → Bool) (memories : List Words) (rows : List Row) (ok : fits late memories rows ≡ true) where
  abbrev P : ℕ → ℕ
  P = place n rows

  abbrev passes : ℕ → Row → Bool
  passes = row_fits late memories rows

  fit_from : (j : ℕ) (rest : List Row) → rows_fit late memories rows j rest ≡ true → (k : ℕ) (r : Row) → slice_get rest k ≡ Some r → passes (j + k) r ≡ true
  fit_from j [] h k r e = absurd cc
  fit_from j (x ∷ rest) h zero r e =
      let same : x ≡ r = cc in let z : j ≡ j + 0 = sym (add-zero j) in
      subst (λ i. passes i r ≡ true) z (subst (λ (y : Row). passes j y ≡ true) same (and_left (passes j x) (rows_fit late memories rows (suc j) rest) h))
  fit_from j (x ∷ rest) h (suc k) r e =
      let z : suc j + k ≡ j + suc k = omega arith in
      subst (λ i. passes i r ≡ true) z (fit_from (suc j) rest (and_right (passes j x) (rows_fit late memories rows (suc j) rest) h) k r e)

  parts : (rows_fit late memories rows 0 rows ≡ true) × ((nat_eq (only_width (slice_get rows 0)) 1
      && (nat_lt 0 (inputs rows) && (nat_le (inputs rows) (registers rows) && nat_le (registers rows) (outputs rows)))) ≡ true)
  parts = two (rows_fit late memories rows 0 rows)
      (nat_eq (only_width (slice_get rows 0)) 1 && (nat_lt 0 (inputs rows) && (nat_le (inputs rows) (registers rows) && nat_le (registers rows) (outputs rows)))) ok

  order : (nat_eq (only_width (slice_get rows 0)) 1 ≡ true) × (nat_lt 0 (inputs rows) ≡ true) × (nat_le (inputs rows) (registers rows) ≡ true)
      × (nat_le (registers rows) (outputs rows) ≡ true)
  order = four (nat_eq (only_width (slice_get rows 0)) 1) (nat_lt 0 (inputs rows)) (nat_le (inputs rows) (registers rows)) (nat_le (registers rows) (outputs rows)) parts.1

  pub clock_wide : only_width (slice_get rows 0) ≡ 1
  clock_wide = eqb-true (only_width (slice_get rows 0)) 1 order.0

  pub some_inputs : 0 < inputs rows
  some_inputs = ltb-true 0 (inputs rows) order.1

  pub inputs_first : inputs rows ≤ registers rows
  inputs_first = leb-true (inputs rows) (registers rows) order.2

  pub outputs_last : registers rows ≤ outputs rows
  outputs_last = leb-true (registers rows) (outputs rows) order.3

  row_passes : (k : ℕ) (r : Row) → slice_get rows k ≡ Some r → passes k r ≡ true
  row_passes k r e = let z : 0 + k ≡ k = omega arith in subst (λ i. passes i r ≡ true) z (fit_from 0 rows parts.0 k r e)

  -- the first row is one signal
  first_one : (r : Row) → passes 0 r ≡ true → row_size n r ≡ 1
  first_one (One r w f) h = refl
  first_one (Each r w f) h = absurd (let e = three (is_wide w) (not (is_clock r)) false h in let z : false ≡ true = e.2 in cc)
  first_one (Many size r w f) h = absurd (let e = three (is_wide w) (not (is_clock r)) false h in let z : false ≡ true = e.2 in cc)
  first_one (Chain r w first step) h = absurd (let e = three (is_wide w) (not (is_clock r)) false h in let z : false ≡ true = e.2 in cc)
  first_one (Chains count r w first step) h = absurd (let e = three (is_wide w) (not (is_clock r)) false h in let z : false ≡ true = e.2 in cc)

  pub place_one : P 1 ≡ 1
  place_one =
      let first = before_first (λ r. not (form_is is_input r)) rows 0 some_inputs in
      let a = place_next n rows 0 first.0 first.1 in let b = first_one first.0 (row_passes 0 first.0 first.1) in omega arith

  pub place_some : (k : ℕ) → 0 < k → 0 < P k
  place_some k l = let a = place_one in let b = place_up n rows 1 k (omega arith) in omega arith

  -- where number i of a row stands, which reads
  pub record IsAt (k : Reader) (i x : ℕ) : Type 0 where
    pub here : P k.number ≤ x
    pub inside : x < P (suc k.number)
    pub among : i < count_of n k.size
    pub until : k.until ≤ suc k.number
    pub own : k.until ≡ suc k.number → P k.number + i < x

  -- a signal of a row
  pub record IsElement (k : Reader) (r : Role) (w : ℕ) (f : Form) (i x : ℕ) : Type 0 where
    pub at : IsAt k i x
    pub low : 1 ≤ w
    pub high : w ≤ 64
    pub clock : is_clock r ≡ nat_eq x 0
    pub input : is_input f ≡ nat_lt k.number (inputs rows)
    pub register : is_register f ≡ is_between (inputs rows) (registers rows) k.number
    pub output : is_output f ≡ not (nat_lt k.number (outputs rows))
    pub fits : form_fits late memories rows k w f ≡ true

  clock_at : (r : Role) (k x : ℕ) → P k ≤ x → not (is_clock r) ≡ true → 0 < k → is_clock r ≡ nat_eq x 0
  clock_at r k x here e l =
      let a = place_some k l in let no : nat_eq x 0 ≡ false = grind (arith, nat_tests) in not-true (is_clock r) e ∙ sym no

  clock_one : (r : Role) (k : ℕ) → is_clock r ≡ nat_eq k 0 → is_clock r ≡ nat_eq (P k) 0
  clock_one r zero e = e
  clock_one r (suc k) e = let a = place_some (suc k) (omega arith) in let here : nat_eq (suc k) 0 ≡ false = grind (arith, nat_tests) in
      let there : nat_eq (P (suc k)) 0 ≡ false = grind (arith, nat_tests) in e ∙ here ∙ sym there

  element : (k : Reader) (r : Role) (w : ℕ) (f : Form) (i x : ℕ) → IsAt k i x → is_wide w ≡ true → is_clock r ≡ nat_eq x 0 → stands late memories rows k.number f ≡ true
      → form_fits late memories rows k w f ≡ true → IsElement k r w f i x
  element k r w f i x at wide clock stand fit =
      let v = two (nat_lt 0 w) (nat_le w 64) wide in
      let s = three (agree (is_input f) (nat_lt k.number (inputs rows))) (agree (is_register f) (is_between (inputs rows) (registers rows) k.number))
      (agree (is_output f) (not (nat_lt k.number (outputs rows)))) stand in
      record {
        at = at;
        low = ltb-true 0 w v.0;
        high = leb-true w 64 v.1;
        clock = clock;
        input = agree_is (is_input f) (nat_lt k.number (inputs rows)) s.0;
        register = agree_is (is_register f) (is_between (inputs rows) (registers rows) k.number) s.1;
        output = agree_is (is_output f) (not (nat_lt k.number (outputs rows))) s.2;
        fits = fit;
      }

  -- who reads: a row's signals, and the steps of its chains
  abbrev row_reader : ℕ → Option Size → Reader
  row_reader k size = record { number = k; until = k; size = size }

  abbrev step_reader : ℕ → Option Size → Reader
  step_reader k size = record { number = k; until = suc k; size = size }

  row_at : (k i : ℕ) (size : Option Size) → P k + i < P (suc k) → i < count_of n size → IsAt (row_reader k size) i (P k + i)
  row_at k i size b l = record { here = omega arith; inside = b; among = l; until = omega arith; own = λ t. absurd (omega arith) }

  step_at : (k i chains : ℕ) (size : Option Size) → P k + chains + i < P (suc k) → i < count_of n size → 0 < chains
      → IsAt (step_reader k size) i (P k + chains + i)
  step_at k i chains size b l some = record { here = omega arith; inside = b; among = l; until = omega arith; own = λ t. omega arith }

  module _ (Q : ℕ → Signal → Type 0) (h : (k : Reader) (r : Role) (w : ℕ) (f : Form) (i x : ℕ) → IsElement k r w f i x → Q x (signal_at n P x r w f i)) where
    one_of : (k : ℕ) (size : Option Size) (r : Role) (w : ℕ) (f : Form) → P k < P (suc k) → 0 < count_of n size → is_wide w ≡ true → is_clock r ≡ nat_eq (P k) 0
        → stands late memories rows k f ≡ true → form_fits late memories rows (row_reader k size) w f ≡ true → Q (P k) (signal_at n P (P k) r w f 0)
    one_of k size r w f b some wide clock stand fit =
        let at : IsAt (row_reader k size) 0 (P k) = record { here = omega arith; inside = b; among = some; until = omega arith; own = λ t. absurd (omega arith) } in
        h (row_reader k size) r w f 0 (P k) (element (row_reader k size) r w f 0 (P k) at wide clock stand fit)

    many_of : (k : Reader) (count x : ℕ) (r : Role) (w : ℕ) (f : Form) → ((i : ℕ) → i < count → IsAt k i (x + i)) → is_wide w ≡ true
        → not (is_clock r) ≡ true → 0 < k.number → stands late memories rows k.number f ≡ true → form_fits late memories rows k w f ≡ true → OfMany n P Q x count r w f
    many_of k count x r w f at wide clock some stand fit = λ i l.
        let here = at i l in h k r w f i (x + i) (element k r w f i (x + i) here wide (clock_at r k.number (x + i) here.here clock some) stand fit)

    row_of : (k : ℕ) (size : Option Size) (r : Role) (w : ℕ) (f : Form) → P (suc k) ≡ P k + count_of n size → many_fit late memories rows k size r w f ≡ true
        → OfMany n P Q (P k) (count_of n size) r w f
    row_of k size r w f next t =
        let reader = row_reader k size in
        let q = four (is_wide w) (not (is_clock r)) (nat_lt 0 k) (stands late memories rows k f && form_fits late memories rows reader w f) t in
        let p = two (stands late memories rows k f) (form_fits late memories rows reader w f) q.3 in
        many_of reader (count_of n size) (P k) r w f (λ i l. row_at k i size (omega arith) l) q.0 q.1 (ltb-true 0 k q.2) p.0 p.1

    -- what a test of chains says: of the row, of the first ones and of the steps
    chain_parts : (k chains : ℕ) (size : Option Size) (r : Role) (w : ℕ) (first step : Form) → chains_fit late memories rows k chains size r w first step ≡ true →
        (is_wide w ≡ true) × (not (is_clock r) ≡ true) × (0 < k)
        × ((stands late memories rows k first ≡ true) × (form_fits late memories rows (row_reader k (Some (Fixed chains))) w first ≡ true))
        × ((stands late memories rows k step ≡ true) × (form_fits late memories rows (step_reader k size) w step ≡ true))
    chain_parts k chains size r w first step t =
        let A = stands late memories rows k first in
        let B = stands late memories rows k step in
        let C = form_fits late memories rows (row_reader k (Some (Fixed chains))) w first in
        let D = form_fits late memories rows (step_reader k size) w step in
        let q = four (is_wide w) (not (is_clock r)) (nat_lt 0 k) (A && (B && (C && D))) t in
        let p = four A B C D q.3 in
        (q.0, q.1, ltb-true 0 k q.2, (p.0, p.2), (p.1, p.3))

    of_row : (k : ℕ) (r : Row) → slice_get rows k ≡ Some r → passes k r ≡ true → OfRow n P Q (P k) r
    of_row k (One r w f) e t =
        let next = place_next n rows k (One r w f) e in
        let one = Some (Fixed 1) in
        let q = four (is_wide w) (agree (is_clock r) (nat_eq k 0)) (stands late memories rows k f) (form_fits late memories rows (row_reader k one) w f) t in
        one_of k one r w f (omega arith) (omega arith) q.0 (clock_one r k (agree_is (is_clock r) (nat_eq k 0) q.1)) q.2 q.3
    of_row k (Each r w f) e t = row_of k None r w f (place_next n rows k (Each r w f) e) t
    of_row k (Many size r w f) e t = row_of k (Some size) r w f (place_next n rows k (Many size r w f) e) t
    of_row k (Chain r w first step) e t =
        let next = place_next n rows k (Chain r w first step) e in
        let p = chain_parts k 1 None r w first step t in (
          one_of k (Some (Fixed 1)) r w first (omega arith) (omega arith) p.0 (clock_at r k (P k) (omega arith) p.1 p.2) p.3.0 p.3.1,
          many_of (step_reader k None) n (P k + 1) r w step (λ i l. step_at k i 1 None (omega arith) l (omega arith)) p.0 p.1 p.2 p.4.0 p.4.1,
        )
    of_row k (Chains count r w first step) e t =
        let next = place_next n rows k (Chains count r w first step) e in
        let size = Some (PerThread count) in
        let p = chain_parts k count size r w first step t in (
          many_of (row_reader k (Some (Fixed count))) count (P k) r w first (λ i l. row_at k i (Some (Fixed count)) (omega arith) l) p.0 p.1 p.2 p.3.0 p.3.1,
          many_of (step_reader k size) (n * count) (P k + count) r w step (λ i l. step_at k i count size (omega arith) l (some_chain n i count l)) p.0 p.1 p.2 p.4.0 p.4.1,
        )

    of_some : (k : ℕ) (o : Option Row) → slice_get rows k ≡ o → OfSome n P Q (P k) o
    of_some k None e = tt
    of_some k (Some r) e = of_row k r e (row_passes k r e)

    pub elements : ByRow n rows Q
    elements k = of_some k (slice_get rows k) refl
