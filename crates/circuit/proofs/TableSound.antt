-- TABLES ARE LEAVES: a table of rows that passes its test is laid out soundly, whatever the number of threads.
use Rattle.std.proofs.Common.{◌≡◌, ℕ, zero, suc, ◌+◌, ◌-◌, ◌*◌, ◌/◌, ◌^◌, ◌<◌, ◌≤◌, ◌⊎◌, Bool, true, false, nat_eq, nat_lt, if◌then◌else◌, List, [], ◌∷◌, length, Option, Some, None, slice_get}
use Rattle.std.proofs.Common.{refl, sym, ap, ◌∙◌, subst, ⊎_elim, inl, inr, arith, add-zero}
use Rattle.std.specs.Prelude.{not, ◌&&◌, ◌||◌}
use Rattle.std.proofs.lemmas.Bool.{ltb-true, ltb-false, leb-true, eqb-true, not-true, not-false, lt-ltb, le-ltb}
use Rattle.std.proofs.lemmas.Bool.Decides.{nat_tests}
use Rattle.std.proofs.lemmas.Option.{none-some}
use Rattle.std.proofs.Math.Nat.{div-lt_iff_lt-mul}
use Rattle.verilog_tree.specs.declared.tree.BinaryOperator.{BinaryOperator}
use Rattle.verilog_tree.specs.declared.tree.BinaryOperator.TheVariants.{Add, Subtract, Multiply, And, Or, Xor, Equal, Less, ShiftLeft, ShiftRight}
use Rattle.netlist.specs.declared.netlist.Value.{Value}
use Rattle.netlist.specs.declared.netlist.Value.TheVariants as value
use Rattle.netlist.specs.declared.netlist.Source.{Source}
use Rattle.netlist.specs.declared.netlist.Source.TheVariants as source
use Rattle.netlist.specs.declared.netlist.Signal.{Signal}
use Rattle.netlist.specs.declared.netlist.Memory.{Memory}
use Rattle.netlist.specs.declared.netlist.Module.{Module}
use Rattle.netlist.specs.Sound.{IsSet}
use Rattle.verilog_meaning.specs.Readings.{Reading}
use Rattle.verilog_meaning.specs.Cycles.{IsRegister}
use Rattle.verilog_meaning.specs.Threads.{operands, IsOneOf}
use Rattle.circuit.specs.declared.rows.Role.{Role}
use Rattle.circuit.specs.declared.table.Size.{Size}
use Rattle.circuit.specs.declared.table.Size.TheVariants.{Fixed, PerThread}
use Rattle.circuit.specs.declared.table.Operand.{Operand}
use Rattle.circuit.specs.declared.table.Operand.TheVariants.{Same, Only, Last, Before, Group}
use Rattle.circuit.specs.declared.table.Form.{Form}
use Rattle.circuit.specs.declared.table.Form.TheVariants.{Input, Register, Constant, Count, Copy, Output, Binary, Conditional, MemoryRead, Pair}
use Rattle.circuit.specs.declared.table.Row.{Row}
use Rattle.circuit.specs.declared.table.Row.TheVariants.{One, Each, Many, Chain, Chains}
use Rattle.circuit.specs.Rows.{EachOf}
use Rattle.circuit.specs.Modules.{Obeys, Has, HasInput, FitsValue, FitsBinary, Reads, IsSound, IsLeaf, FitsAction, FitsMemory, is_between}
use Rattle.circuit.specs.Table.{is_output, size_of, place, operand_at, source_at, signal_at, laid}
use Rattle.circuit.specs.Fits.{form_is, is_input, is_register, inputs, registers, outputs, grants, chains, is_late, is_late_row, same, most, Words, Reader, each_width, only_width, chain_width}
use Rattle.circuit.specs.Fits.{may_read, width_of, binary_fits, memory_fits, form_fits, fits}
use Rattle.circuit.proofs.Tables.{Told, fits_among, operand_of, all_told_at}
use Rattle.circuit.proofs.LeafForm.{AreData, ReadsData, IsAssigned, IsFormed}
use Rattle.circuit.proofs.RowModules.{clock_name}
use Rattle.circuit.proofs.TableRows.{row_size, place_next, place_up, OfRow, OfSome, ByRow, listed, by_rows, by_signals, IsListed}
use Rattle.circuit.proofs.TableElements.{two, three, before_first, count_of, at_most, elements, IsAt, IsElement, place_some}

abbrev pub row_width : Row → ℕ
row_width (One r w f) = w
row_width (Each r w f) = w
row_width (Many size r w f) = w
row_width (Chain r w first step) = w
row_width (Chains count r w first step) = w

-- ---- what an operand finds

passed : (b : Bool) (v w : ℕ) → (if b then v else 0) ≡ w → 0 < w → (b ≡ true) × (v ≡ w)
passed true v w e l = (refl, e)
passed false v w e l = absurd (omega arith)

-- a row of this width and at least so many signals
abbrev Finds : ℕ → ℕ → ℕ → Option Row → Type 0
Finds n least w o = (r : Row) × (o ≡ Some r) × (row_width r ≡ w) × (least ≤ row_size n r)

same_size : (a b : Option Size) → same a b ≡ true → a ≡ b
same_size None None e = refl
same_size (Some (Fixed a)) (Some (Fixed b)) e = ap (λ z. Some (Fixed z)) (eqb-true a b e)
same_size (Some (PerThread a)) (Some (PerThread b)) e = ap (λ z. Some (PerThread z)) (eqb-true a b e)
same_size a b e = absurd cc

-- a width that is passed on for rows of this size only
sized : (n : ℕ) (k size : Option Size) (v w : ℕ) → (if same k size then v else 0) ≡ w → 0 < w → (v ≡ w) × (count_of n k ≡ count_of n size)
sized n k size v w e l = let p = passed (same k size) v w e l in (p.1, ap (count_of n) (same_size k size p.0))

each_found : (n : ℕ) (k : Option Size) (o : Option Row) (w : ℕ) → each_width k o ≡ w → 0 < w → Finds n (count_of n k) w o
each_found n k None w e l = absurd (omega arith)
each_found n k (Some (One r v f)) w e l = absurd (omega arith)
each_found n k (Some (Each r v f)) w e l = let p = sized n k None v w e l in let s : count_of n k ≡ n = p.1 in (Each r v f, refl, p.0, (omega arith))
each_found n k (Some (Many size r v f)) w e l =
    let p = sized n k (Some size) v w e l in let s : count_of n k ≡ size_of n size = p.1 in (Many size r v f, refl, p.0, (omega arith))
each_found n k (Some (Chain r v first step)) w e l = absurd (omega arith)
each_found n k (Some (Chains count r v first step)) w e l = absurd (omega arith)

only_found : (n : ℕ) (o : Option Row) (w : ℕ) → only_width o ≡ w → 0 < w → Finds n 1 w o
only_found n (Some (One r v f)) w e l = (One r v f, refl, e, (omega arith))
only_found n o w e l = absurd (omega arith)

chain_found : (n : ℕ) (k : Option Size) (o : Option Row) (w : ℕ) → chain_width k o ≡ w → 0 < w → Finds n (count_of n k) w o
chain_found n k None w e l = absurd (omega arith)
chain_found n k (Some (One r v f)) w e l = absurd (omega arith)
chain_found n k (Some (Each r v f)) w e l = absurd (omega arith)
chain_found n k (Some (Many size r v f)) w e l = absurd (omega arith)
chain_found n k (Some (Chain r v first step)) w e l =
    let p = sized n k None v w e l in let s : count_of n k ≡ n = p.1 in (Chain r v first step, refl, p.0, (omega arith))
chain_found n k (Some (Chains count r v first step)) w e l =
    let p = sized n k (Some (PerThread count)) v w e l in let s : count_of n k ≡ n * count = p.1 in (Chains count r v first step, refl, p.0, (omega arith))

-- the end of a chain
last_found : (n : ℕ) (o : Option Row) (w : ℕ) → chain_width None o ≡ w → 0 < w → Finds n (suc n) w o
last_found n None w e l = absurd (omega arith)
last_found n (Some (One r v f)) w e l = absurd (omega arith)
last_found n (Some (Each r v f)) w e l = absurd (omega arith)
last_found n (Some (Many size r v f)) w e l = absurd (omega arith)
last_found n (Some (Chain r v first step)) w e l = (Chain r v first step, refl, e, (omega arith))
last_found n (Some (Chains count r v first step)) w e l = absurd (omega arith)

-- a number below a product is in one of so many groups
group_below : (n c k : ℕ) → k < n * c → k / c < n
group_below n zero k l = absurd (omega arith)
group_below n (suc c) k l = (div-lt_iff_lt-mul {k = suc c} {x = k} {y = n} (omega arith)).1 l

in_time_row : (a b : Bool) → (a || not b) ≡ true → b ≡ true → a ≡ true
in_time_row true b e f = refl
in_time_row false true e f = absurd cc
in_time_row false false e f = absurd cc

-- ---- a row's signals

module _ (n : ℕ) (rows : List Row) (m : Module) (is : m.signals ≡ laid n rows) where
  has_in : (at : ℕ) (r : Row) → OfRow n (place n rows) (IsListed n rows m is) at r → (e : ℕ) → e < row_size n r → Has m (at + e) (row_width r)
  has_in at (One r w f) h zero l = let z : at ≡ at + 0 = sym (add-zero at) in subst (λ y. Has m y w) z (record { signal = _; listed = h; wide = refl })
  has_in at (One r w f) h (suc e) l = absurd (omega arith)
  has_in at (Each r w f) h e l = record { signal = _; listed = h e l; wide = refl }
  has_in at (Many size r w f) h e l = record { signal = _; listed = h e l; wide = refl }
  has_in at (Chain r w first step) h zero l = let z : at ≡ at + 0 = sym (add-zero at) in subst (λ y. Has m y w) z (record { signal = _; listed = h.0; wide = refl })
  has_in at (Chain r w first step) h (suc e) l =
      let z : at + 1 + e ≡ at + suc e = omega arith in subst (λ y. Has m y w) z (record { signal = _; listed = h.1 e (omega arith); wide = refl })
  has_in at (Chains count r w first step) h e l = ⊎_elim
      (λ (b : e < count). record { signal = _; listed = h.0 e b; wide = refl })
      (λ (b : count ≤ e).
      let z : at + count + (e - count) ≡ at + e = omega arith in
      subst (λ y. Has m y w) z (record { signal = _; listed = h.1 (e - count) (omega arith); wide = refl }))
      (let c : (e < count) ⊎ (count ≤ e) = grind (arith, nat_tests) in c)

  -- signal e of row k
  pub has_at : (k : ℕ) (r : Row) → slice_get rows k ≡ Some r → (e : ℕ) → e < row_size n r → Has m (place n rows k + e) (row_width r)
  has_at k r q e l =
      has_in (place n rows k) r (subst (OfSome n (place n rows) (IsListed n rows m is) (place n rows k)) q (listed n rows m is k)) e l

-- ---- which places are late

module _ (n : ℕ) (rows : List Row) (k x : ℕ) (here : place n rows k ≤ x) (inside : x < place n rows (suc k)) where
  pub below : (a : ℕ) → nat_lt x (place n rows a) ≡ nat_lt k a
  below a = ⊎_elim
      (λ (l : k < a). let u = place_up n rows (suc k) a (omega arith) in lt-ltb x (place n rows a) (omega arith) ∙ sym (lt-ltb k a l))
      (λ (l : a ≤ k). let u = place_up n rows a k l in le-ltb x (place n rows a) (omega arith) ∙ sym (le-ltb k a l))
      (let c : (k < a) ⊎ (a ≤ k) = grind (arith, nat_tests) in c)

  between : (a b : ℕ) → is_between (place n rows a) (place n rows b) x ≡ is_between a b k
  between a b = ap (λ t. not t && nat_lt x (place n rows b)) (below a) ∙ ap (λ t. not (nat_lt k a) && t) (below b)

  pub late_is : is_late rows n x ≡ is_late_row rows k
  late_is =
      ap (λ t. t || is_between (place n rows (chains rows)) (place n rows (outputs rows)) x) (between (grants rows) (suc (grants rows)))
      ∙ ap (λ t. is_between (grants rows) (suc (grants rows)) k || t) (between (chains rows) (outputs rows))

-- ---- right sides

-- memories of these widths
abbrev pub AreMemories : Module → List Words → Type 0
AreMemories m memories =
    (j : ℕ) (c : Words) → slice_get memories j ≡ Some c → (s : Memory) × (slice_get m.memories j ≡ Some s) × (s.width ≡ c.width) × (length s.initial < 2 ^ c.address)

-- a module of n threads that is laid out by a table which passes its test, where these rows and these places are late
pub record IsLaid (n : ℕ) (late : ℕ → Bool) (memories : List Words) (rows : List Row) (m : Module) (late_at : ℕ → Bool) : Type 0 where
  pub few : n ≤ 64
  pub passes : fits late memories rows ≡ true
  pub signals : m.signals ≡ laid n rows
  pub agrees : (k x : ℕ) → place n rows k ≤ x → x < place n rows (suc k) → late_at x ≡ late k
  pub words : AreMemories m memories

pub no_memories : (m : Module) → AreMemories m []
no_memories m j c e = absurd (none-some c e)

module _ {n : ℕ} {late : ℕ → Bool} {memories : List Words} {rows : List Row} {m : Module} {late_at : ℕ → Bool} (table : IsLaid n late memories rows m late_at) where
  abbrev P : ℕ → ℕ
  P = place n rows

  abbrev IsHere : Reader → ℕ → ℕ → Type 0
  IsHere = IsAt n table.few late memories rows table.passes

  -- signal x reads signal y, which is not the clock
  abbrev Finding : ℕ → ℕ → ℕ → Type 0
  Finding x y w = Reads m late_at x y w × (0 < y)

  -- of element e of row j
  found : (k : Reader) (i x j e y w : ℕ) (r : Row) → IsHere k i x → slice_get rows j ≡ Some r → row_width r ≡ w → e < row_size n r → y ≡ P j + e → P j + e < x → 0 < j
      → (late k.number || not (late j)) ≡ true → Finding x y w
  found k i x j e y w r at there wide inside same before some time =
      let next = place_next n rows j r there in
      let from = place_some n table.few late memories rows table.passes j some in
      let has : Has m y w = subst (λ z. Has m z w) (sym same) (subst (Has m (P j + e)) wide (has_at n rows m table.signals j r there e inside)) in
      let late_y : late_at y ≡ late j = table.agrees j y (omega arith) (omega arith) in
      let late_x : late_at x ≡ late k.number = table.agrees k.number x at.here at.inside in (
        record {
          has = has;
          before = (omega arith);
          in_time = λ t. late_x ∙ in_time_row (late k.number) (late j) time (sym late_y ∙ t);
        },
        (omega arith),
      )

  earlier : (k : Reader) (i x j e y w : ℕ) (r : Row) → IsHere k i x → slice_get rows j ≡ Some r → row_width r ≡ w → e < row_size n r → y ≡ P j + e → j < k.number → 0 < j
      → (late k.number || not (late j)) ≡ true → Finding x y w
  earlier k i x j e y w r at there wide inside same l some time =
      let next = place_next n rows j r there in
      let up = place_up n rows (suc j) k.number (omega arith) in
      let here = at.here in
      found k i x j e y w r at there wide inside same (omega arith) some time

  abbrev may : ℕ → ℕ → ℕ → Bool
  may = may_read late memories rows

  may_be : (k until j : ℕ) → may k until j ≡ true → (0 < j) × (j < until) × ((late k || not (late j)) ≡ true)
  may_be k until j e =
      let q = three (nat_lt 0 j) (nat_lt j until) (late k || not (late j)) e in
      (ltb-true 0 j q.0, ltb-true j until q.1, q.2)

  reads : (k : Reader) (i x w : ℕ) (o : Operand) → IsHere k i x → width_of late memories rows k o ≡ w → 0 < w → Finding x (operand_at n P o i) w
  reads k i x w (Same j) at e l =
      let p = passed (may k.number k.number j) (each_width k.size (slice_get rows j)) w e l in
      let b = may_be k.number k.number j p.0 in
      let g = each_found n k.size (slice_get rows j) w p.1 l in
      let some = at.among in let least = g.3 in
      earlier k i x j i (P j + i) w g.0 at g.1 g.2 (omega arith) refl b.1 b.0 b.2
  reads k i x w (Only j) at e l =
      let p = passed (may k.number k.number j) (only_width (slice_get rows j)) w e l in
      let b = may_be k.number k.number j p.0 in
      let g = only_found n (slice_get rows j) w p.1 l in
      let least = g.3 in
      earlier k i x j 0 (P j) w g.0 at g.1 g.2 (omega arith) (sym (add-zero (P j))) b.1 b.0 b.2
  reads k i x w (Last j) at e l =
      let p = passed (may k.number k.number j) (chain_width None (slice_get rows j)) w e l in
      let b = may_be k.number k.number j p.0 in
      let g = last_found n (slice_get rows j) w p.1 l in
      let least = g.3 in
      earlier k i x j n (P j + n) w g.0 at g.1 g.2 (omega arith) refl b.1 b.0 b.2
  reads k i x w (Before j) at e l =
      let p = passed (may k.number k.until j) (chain_width k.size (slice_get rows j)) w e l in
      let b = may_be k.number k.until j p.0 in
      let g = chain_found n k.size (slice_get rows j) w p.1 l in
      let some = at.among in let least = g.3 in let limit = at.until in let under = b.1 in
      ⊎_elim
      (λ (s : j < k.number). earlier k i x j i (P j + i) w g.0 at g.1 g.2 (omega arith) refl s b.0 b.2)
      (λ (s : j ≡ k.number).
      let own : P k.number + i < x = at.own (omega arith) in
      let before : P j + i < x = subst (λ z. P z + i < x) (sym s) own in
      found k i x j i (P j + i) w g.0 at g.1 g.2 (omega arith) refl before b.0 b.2)
      (let c : (j < k.number) ⊎ (j ≡ k.number) = grind (arith, nat_tests) in c)
  reads k i x w (Group j count) at e l =
      let size = Some (PerThread count) in
      let p = passed (same k.size size && may k.number k.number j) (each_width None (slice_get rows j)) w e l in
      let t = two (same k.size size) (may k.number k.number j) p.0 in
      let b = may_be k.number k.number j t.1 in
      let g = each_found n None (slice_get rows j) w p.1 l in
      let many : i < n * count = subst (λ z. i < count_of n z) (same_size k.size size t.0) at.among in
      let some = group_below n count i many in let least : n ≤ row_size n g.0 = g.3 in
      earlier k i x j (i / count) (P j + i / count) w g.0 at g.1 g.2 (omega arith) refl b.1 b.0 b.2

  abbrev I : ℕ
  I = P (inputs rows)

  -- what each source reads is found
  abbrev FindsSource : ℕ → ℕ → Source → Type 0
  FindsSource x w source.Input = x < I
  FindsSource x w (source.Register c) = c < 2 ^ w
  FindsSource x w (source.Assigned v) = FitsValue (Finding x) (λ j. slice_get m.memories j) w v
  FindsSource x w (source.Port i p) = ⊥

  abbrev width : Reader → Operand → ℕ
  width = width_of late memories rows

  find : (k : Reader) (i x w : ℕ) (o : Operand) → IsHere k i x → 0 < w → nat_eq (width k o) w ≡ true → Finding x (operand_at n P o i) w
  find k i x w o at l e = reads k i x w o at (eqb-true (width k o) w e) l

  compare : (k : Reader) (i x w : ℕ) (a b : Operand) → IsHere k i x → (nat_eq w 1 && (nat_lt 0 (width k a) && nat_eq (width k a) (width k b))) ≡ true
      → (w ≡ 1) × ((v : ℕ) × Finding x (operand_at n P a i) v × Finding x (operand_at n P b i) v)
  compare k i x w a b at e =
      let q = three (nat_eq w 1) (nat_lt 0 (width k a)) (nat_eq (width k a) (width k b)) e in
      let l = ltb-true 0 (width k a) q.1 in
      (eqb-true w 1 q.0, (width k a, reads k i x (width k a) a at refl l, reads k i x (width k a) b at (sym (eqb-true (width k a) (width k b) q.2)) l))

  both : (k : Reader) (i x w : ℕ) (a b : Operand) → IsHere k i x → 0 < w → (nat_eq (width k a) w && nat_eq (width k b) w) ≡ true
      → Finding x (operand_at n P a i) w × Finding x (operand_at n P b i) w
  both k i x w a b at l e =
      let q = two (nat_eq (width k a) w) (nat_eq (width k b) w) e in (find k i x w a at l q.0, find k i x w b at l q.1)

  find_binary : (k : Reader) (i x w : ℕ) (operator : BinaryOperator) (a b : Operand) → IsHere k i x → 0 < w → binary_fits operator w (width k a) (width k b) ≡ true
      → FitsBinary (Finding x) operator w (operand_at n P a i) (operand_at n P b i)
  find_binary k i x w Equal a b at l e = compare k i x w a b at e
  find_binary k i x w Less a b at l e = compare k i x w a b at e
  find_binary k i x w ShiftLeft a b at l e = absurd cc
  find_binary k i x w ShiftRight a b at l e = absurd cc
  find_binary k i x w Add a b at l e = both k i x w a b at l e
  find_binary k i x w Subtract a b at l e = both k i x w a b at l e
  find_binary k i x w Multiply a b at l e = both k i x w a b at l e
  find_binary k i x w And a b at l e = both k i x w a b at l e
  find_binary k i x w Or a b at l e = both k i x w a b at l e
  find_binary k i x w Xor a b at l e = both k i x w a b at l e

  find_word : (j w v : ℕ) (o : Option Words) → slice_get memories j ≡ o → memory_fits o w v ≡ true
      → (0 < v) × ((s : Memory) × (slice_get m.memories j ≡ Some s) × (s.width ≡ w) × (length s.initial < 2 ^ v))
  find_word j w v None q e = absurd cc
  find_word j w v (Some c) q e =
      let t = three (nat_eq c.width w) (nat_lt 0 v) (nat_eq c.address v) e in
      let s = table.words j c q in
      (ltb-true 0 v t.1, (s.0, s.1, s.2 ∙ eqb-true c.width w t.0, subst (λ z. length s.0.initial < 2 ^ z) (eqb-true c.address v t.2) s.3))

  find_form : (k : Reader) (i x w : ℕ) (f : Form) → IsHere k i x → 0 < w → (is_input f ≡ true → x < I) → form_fits late memories rows k w f ≡ true → FindsSource x w (source_at n P f i)
  find_form k i x w Input at l front e = front refl
  find_form k i x w (Register c) at l front e = ltb-true c (2 ^ w) e
  find_form k i x w (Constant c) at l front e = ltb-true c (2 ^ w) e
  find_form k i x w (Count first) at l front e =
      let a = leb-true (first + most k.size) (2 ^ w) e in let b = at.among in let c = at_most n table.few k.size in omega arith
  find_form k i x w (Copy a) at l front e = find k i x w a at l e
  find_form k i x w (Output a) at l front e = find k i x w a at l e
  find_form k i x w (Binary operator a b) at l front e = find_binary k i x w operator a b at l e
  find_form k i x w (Conditional c a b) at l front e =
      let q = three (nat_eq (width k c) 1) (nat_eq (width k a) w) (nat_eq (width k b) w) e in
      (find k i x 1 c at (omega arith) q.0, find k i x w a at l q.1, find k i x w b at l q.2)
  find_form k i x w (MemoryRead j a) at l front e =
      let s = find_word j w (width k a) (slice_get memories j) refl e in
      (s.1.0, s.1.1, s.1.2, (width k a, reads k i x (width k a) a at refl s.0, s.1.3))
  find_form k i x w (Pair a b) at l front e =
      let q = three (nat_lt 0 (width k a)) (nat_lt 0 (width k b)) (nat_eq w (width k a + width k b)) e in
      let s = eqb-true w (width k a + width k b) q.2 in (
        width k a,
        width k b,
        reads k i x (width k a) a at refl (ltb-true 0 (width k a) q.0),
        (width k b, 0, reads k i x (width k b) b at refl (ltb-true 0 (width k b) q.1), refl, (omega arith)),
        s,
      )

  -- an input row stands before the inputs' end
  in_front : (k : Reader) (i x : ℕ) → IsHere k i x → nat_lt k.number (inputs rows) ≡ true → x < I
  in_front k i x at e =
      let l = ltb-true k.number (inputs rows) e in let u = place_up n rows (suc k.number) (inputs rows) (omega arith) in let b = at.inside in omega arith

  abbrev IsMade : Reader → Role → ℕ → Form → ℕ → ℕ → Type 0
  IsMade = IsElement n table.few late memories rows table.passes

  finds : (k : Reader) (r : Role) (w : ℕ) (f : Form) (i x : ℕ) → IsMade k r w f i x → FindsSource x w (source_at n P f i)
  finds k r w f i x el = find_form k i x w f el.at el.low (λ t. in_front k i x el.at (sym el.input ∙ t)) el.fits

  weaken : (x w : ℕ) (s : Source) → FindsSource x w s → IsSound m I late_at x (record { name = []; width = w; is_output = false; source = s })
  weaken x w source.Input h = h
  weaken x w (source.Register c) h = h
  weaken x w (source.Assigned v) h = fits_among (Finding x) (Reads m late_at x) (λ j. slice_get m.memories j) w v (λ y u i p. p.0) h
  weaken x w (source.Port i p) h = absurd h

  abbrev each_one : (Q : ℕ → Signal → Type 0) → ((k : Reader) (r : Role) (w : ℕ) (f : Form) (i x : ℕ) → IsMade k r w f i x → Q x (signal_at n P x r w f i)) → ByRow n rows Q
  each_one = elements n table.few late memories rows table.passes

  pub sound : (x : ℕ) (s : Signal) → slice_get m.signals x ≡ Some s → IsSound m I late_at x s
  sound = by_signals n rows m table.signals (IsSound m I late_at) (each_one (IsSound m I late_at) (λ k r w f i x el. weaken x w (source_at n P f i) (finds k r w f i x el)))

  -- ---- inputs

  input_is : (f : Form) (i : ℕ) → is_input f ≡ true → source_at n P f i ≡ source.Input
  input_is Input i e = refl
  input_is f i e = absurd cc

  input_in : (at : ℕ) (r : Row) → form_is is_input r ≡ true → OfRow n P (IsListed n rows m table.signals) at r → (e : ℕ) → e < row_size n r → HasInput m (at + e)
  input_in at (One r w f) t h zero l =
      let z : at ≡ at + 0 = sym (add-zero at) in subst (HasInput m) z (record { signal = _; listed = h; is = input_is f 0 t })
  input_in at (One r w f) t h (suc e) l = absurd (omega arith)
  input_in at (Each r w f) t h e l = record { signal = _; listed = h e l; is = input_is f e t }
  input_in at (Many size r w f) t h e l = record { signal = _; listed = h e l; is = input_is f e t }
  input_in at (Chain r w first step) t h e l = absurd cc
  input_in at (Chains count r w first step) t h e l = absurd cc

  inputs_until : (k : ℕ) → k ≤ inputs rows → (x : ℕ) → x < P k → HasInput m x
  inputs_until zero l x b = absurd (omega arith)
  inputs_until (suc k) l x b =
      let r = before_first (λ r. not (form_is is_input r)) rows k (omega arith) in
      let next = place_next n rows k r.0 r.1 in
      ⊎_elim
      (λ (s : x < P k). inputs_until k (omega arith) x s)
      (λ (s : P k ≤ x).
      let z : P k + (x - P k) ≡ x = omega arith in
      subst (HasInput m) z
      (input_in (P k) r.0 (not-false (form_is is_input r.0) r.2) (subst (OfSome n P (IsListed n rows m table.signals) (P k)) r.1 (listed n rows m table.signals k)) (x - P k) (omega arith)))
      (let c : (x < P k) ⊎ (P k ≤ x) = grind (arith, nat_tests) in c)

  pub input_at : (x : ℕ) → x < I → HasInput m x
  input_at x l = inputs_until (inputs rows) (omega arith) x l

  pub leaf : m.instances ≡ [] → EachOf (FitsAction m) m.actions → EachOf FitsMemory m.memories → IsLeaf m I late_at
  leaf alone acts begins = record { alone = alone; first = input_at; sound = sound; acts = acts; begins = begins }

  -- what each row's signals show
  pub told : (r : Reading) → Obeys m r → ByRow n rows (Told m r)
  told r obeys = by_rows n rows m table.signals (Told m r) (all_told_at m I late_at sound r obeys)

  -- ---- registers

  register_in : (f : Form) (i : ℕ) → IsRegister (source_at n P f i) → is_register f ≡ true
  register_in (Register c) i t = refl
  register_in f i t = absurd t

  register_at : (k : Reader) (i x : ℕ) → IsHere k i x → is_between (inputs rows) (registers rows) k.number ≡ true → (I ≤ x) × (x < P (registers rows))
  register_at k i x at e =
      let q = two (not (nat_lt k.number (inputs rows))) (nat_lt k.number (registers rows)) e in
      let a = ltb-false k.number (inputs rows) (not-true (nat_lt k.number (inputs rows)) q.0) in
      let b = ltb-true k.number (registers rows) q.1 in
      let u = place_up n rows (inputs rows) k.number a in
      let v = place_up n rows (suc k.number) (registers rows) (omega arith) in
      let here = at.here in let inside = at.inside in ((omega arith), (omega arith))

  -- readings that are the same at the registers' places
  pub same_registers : (h g : Reading) → ((x : ℕ) → I ≤ x → x < P (registers rows) → h.signal x ≡ g.signal x)
      → (x : ℕ) (s : Signal) → slice_get m.signals x ≡ Some s → IsRegister s.source → h.signal x ≡ g.signal x
  same_registers h g same = by_signals n rows m table.signals (λ x s. IsRegister s.source → h.signal x ≡ g.signal x)
      (each_one (λ x s. IsRegister s.source → h.signal x ≡ g.signal x) (λ k r w f i x el t.
      let b = register_at k i x el.at (sym el.register ∙ register_in f i t) in same x b.0 b.1))

  -- ---- that the module can stand in a table of modules

  module _ (set : (x : ℕ) → I ≤ x → x < P (registers rows) → (c : ℕ) → IsSet m x (source.Register c)) where
    set_of : (f : Form) (i x : ℕ) → (is_register f ≡ true → (c : ℕ) → IsSet m x (source.Register c)) → IsSet m x (source_at n P f i)
    set_of (Register c) i x h = h refl c
    set_of Input i x h = tt
    set_of (Constant c) i x h = tt
    set_of (Count c) i x h = tt
    set_of (Copy a) i x h = tt
    set_of (Output a) i x h = tt
    set_of (Binary operator a b) i x h = tt
    set_of (Conditional c a b) i x h = tt
    set_of (MemoryRead j a) i x h = tt
    set_of (Pair a b) i x h = tt

    data_of : (x : ℕ) (ys : List ℕ) → ((y : ℕ) → IsOneOf y ys → (u : ℕ) × Finding x y u) → AreData m ys
    data_of x [] h = tt
    data_of x (y ∷ ys) h = ((h y (inl refl)).1.1, data_of x ys (λ z i. h z (inr i)))

    data_in : (x w : ℕ) (v : Value) → FitsValue (Finding x) (λ j. slice_get m.memories j) w v → AreData m (operands v)
    data_in x w v h = data_of x (operands v) (operand_of (Finding x) (λ j. slice_get m.memories j) w v h)

    data_read : (x w : ℕ) (f : Form) (i : ℕ) → FindsSource x w (source_at n P f i) → ReadsData m (source_at n P f i)
    data_read x w Input i h = tt
    data_read x w (Register c) i h = tt
    data_read x w (Constant c) i h = (tt, tt)
    data_read x w (Count c) i h = (tt, tt)
    data_read x w (Copy a) i h = (data_in x w (value.Copy (operand_at n P a i)) h, tt)
    data_read x w (Output a) i h = (data_in x w (value.Copy (operand_at n P a i)) h, tt)
    data_read x w (Binary operator a b) i h = (data_in x w (value.Binary operator (operand_at n P a i) (operand_at n P b i)) h, tt)
    data_read x w (Conditional c a b) i h = (data_in x w (value.Conditional (operand_at n P c i) (operand_at n P a i) (operand_at n P b i)) h, tt)
    data_read x w (MemoryRead j a) i h = (data_in x w (value.MemoryRead j (operand_at n P a i)) h, tt)
    data_read x w (Pair a b) i h = (data_in x w (value.Concatenation (operand_at n P a i ∷ operand_at n P b i ∷ [])) h, tt)

    output_assigned : (f : Form) (i : ℕ) → is_output f ≡ true → IsAssigned m (source_at n P f i)
    output_assigned (Output a) i e = tt
    output_assigned f i e = absurd cc

    ends_at : (k : Reader) (i x : ℕ) → IsHere k i x → nat_lt x (P (outputs rows)) ≡ nat_lt k.number (outputs rows)
    ends_at k i x at = below n rows k.number x at.here at.inside (outputs rows)

    form_element : (k : Reader) (r : Role) (w : ℕ) (f : Form) (i x : ℕ) → IsMade k r w f i x → IsFormed m (P (outputs rows)) x (signal_at n P x r w f i)
    form_element k r w f i x el =
        let e = ends_at k i x el.at in record {
          low = el.low;
          high = el.high;
          clock = clock_name r x ∙ el.clock;
          before = λ l. el.output ∙ ap not (sym e ∙ lt-ltb x (P (outputs rows)) l);
          behind = λ l. let o : is_output f ≡ true = el.output ∙ ap not (sym e ∙ le-ltb x (P (outputs rows)) l) in (o, output_assigned f i o);
          reads = data_read x w f i (finds k r w f i x el);
          set = set_of f i x (λ t c. let b = register_at k i x el.at (sym el.register ∙ t) in set x b.0 b.1 c);
        }

    pub formed : (x : ℕ) (s : Signal) → slice_get m.signals x ≡ Some s → IsFormed m (P (outputs rows)) x s
    formed = by_signals n rows m table.signals (IsFormed m (P (outputs rows))) (each_one (IsFormed m (P (outputs rows))) form_element)
