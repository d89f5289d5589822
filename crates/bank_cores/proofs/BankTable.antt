-- The table of a bank keeps the promise of the bank's machine.
use Rattle.std.proofs.Common.{◌∷◌, ◌++◌, subst, ◌≡◌, ℕ, zero, suc, ◌+◌, ◌-◌, ◌^◌, ◌<◌, ◌≤◌, List, [], length, slice_get, Option, Some, None, true, nat_eq, nat_lt}
use Rattle.std.proofs.Common.{if◌then◌else◌, refl, sym, ap, ◌∙◌, arith}
use Rattle.std.specs.Prelude.{◌&&◌, slice_index}
use Rattle.std.proofs.lemmas.Nat.{pow_pos}
use Rattle.std.proofs.lemmas.Bool.{lt-ltb, le-leb, eq-eqb}
use Rattle.std.proofs.lemmas.List.{length-replicate}
use Rattle.lists.proofs.Places.{zeros_at}
use Rattle.hls_ints.specs.Residues.{bit_of}
use Rattle.netlist.specs.declared.netlist.Memory.{Memory}
use Rattle.netlist.specs.declared.netlist.Action.{Action}
use Rattle.netlist.specs.declared.netlist.Module.{Module}
use Rattle.circuit.specs.Readings.{Reading, written, action_bytes, initial_reading, initial_signal, initial_word, memory_words, next_reading, register_after, word_after}
use Rattle.circuit.specs.declared.table.Row.{Row}
use Rattle.circuit.specs.Rows.{EachOf, sets, set_at}
use Rattle.circuit.specs.Modules.{FitsAction, FitsMemory, Obeys, Agree, Has, HasInput, IsLeaf}
use Rattle.circuit.specs.Arbitration.{is_granted}
use Rattle.circuit.specs.Machines.{Grants, IsCore, asked, printed, after_grant}
use Rattle.circuit.specs.Table.{place}
use Rattle.circuit.specs.Fits.{is_late_row, registers, fits, Words as Cells}
use Rattle.circuit.proofs.Tables.{Told, has}
use Rattle.circuit.proofs.TableRows.{ByRow, IsListed, listed}
use Rattle.circuit.proofs.TableSound as sound
use Rattle.circuit.proofs.Chains.{pick, chain_is}
use Rattle.circuit.proofs.Edges.{register_after-append, word_after-append, sets_after, sets_words, sets_print, tested, both_bits, a_bit, read_bit, each_joined, each_spread}
use Rattle.bank_cores.specs.declared.bank.Shape.{Shape}
use Rattle.bank_cores.specs.Rows as row
use Rattle.bank_cores.specs.Bank.{rows, at, end, store_under, memory_of, IsShape, IsBank}
use Rattle.bank_cores.specs.Machine.{Words, Ask, ask_of, begun, bank_machine, bank_places, Shows, part_place, table_of, inputs, is_late}
use Rattle.circuit.proofs.ReadWords.{first_word, read_is, if_same}
use Rattle.bank_cores.proofs.Effects.{each_kept, each_word, sized_after, each_after, no_bytes}

none_printed : (shape : Shape) (s : Words) (f : ℕ → Ask) (o : Option ℕ) → [] ≡ printed (bank_machine shape) s f o
none_printed shape s f None = refl
none_printed shape s f (Some w) = refl

sole : (x z : Memory) (j : ℕ) → slice_get (x ∷ []) j ≡ Some z → (x ≡ z) × (j ≡ 0)
sole x z zero e = (let s : x ≡ z = cc in s, refl)
sole x z (suc j) e = absurd cc

some_bits : (n a : ℕ) → 1 ≤ n → n < 2 ^ a → 1 ≤ a
some_bits n zero l b = absurd (omega arith)
some_bits n (suc a) l b = omega arith

-- a memory of words of w bits, by addresses of a bits
abbrev pub memory : ℕ → ℕ → List Cells
memory a w = record { width = w; address = a } ∷ []

-- the rows are in order
pub rows_fit : (a w : ℕ) → 1 ≤ a → a ≤ 64 → 1 ≤ w → w ≤ 64 → fits (is_late_row (rows a w)) (memory a w) (rows a w) ≡ true
rows_fit a w a1 a2 w1 w2 =
    let p = lt-ltb 0 a a1 in
    let q = le-leb a 64 a2 in
    let s = lt-ltb 0 w w1 in
    let t = le-leb w 64 w2 in
    let u = eq-eqb a a refl in
    let v = eq-eqb w w refl in
    let x = lt-ltb 0 (2 ^ a) (pow_pos a) in
    let y = lt-ltb 0 (2 ^ w) (pow_pos w) in
    simp (p, q, s, t, u, v, x, y)

module _ (shape : Shape) (ok : IsShape shape) (m : Module) (is : IsBank shape m) where
  abbrev n : ℕ
  n = shape.threads

  abbrev a : ℕ
  a = shape.address_width

  abbrev w : ℕ
  w = shape.width

  abbrev table : List Row
  table = table_of shape

  abbrev memories : List Cells
  memories = memory a w

  fit : fits (is_late_row table) memories table ≡ true
  fit = rows_fit a w (some_bits (length shape.initial) a ok.some ok.addressed) ok.address_high ok.low ok.high

  held : slice_get m.memories 0 ≡ Some (memory_of shape)
  held = ap (λ (ms : List Memory). slice_get ms 0) is.memories

  words : sound.AreMemories m memories
  words zero c e =
      let same : record { width = w; address = a } ≡ c = cc in
      subst (λ (c : Cells). (s : Memory) × (slice_get m.memories 0 ≡ Some s) × (s.width ≡ c.width) × (length s.initial < 2 ^ c.address)) same
      (memory_of shape, held, refl, ok.addressed)
  words (suc j) c e = absurd cc

  pub laid_by : sound.IsLaid n (is_late_row table) memories table m (is_late shape)
  laid_by = record { few = ok.few; passes = fit; signals = is.signals; agrees = sound.late_is n table; words = words }

  there : ByRow n table (IsListed n table m is.signals)
  there = listed n table m is.signals

  -- ---- the statements

  address_has : Has m (end n row.address) a
  address_has = sound.has_at n table m is.signals row.address _ refl n (omega arith)

  value_has : Has m (end n row.value) w
  value_has = sound.has_at n table m is.signals row.value _ refl n (omega arith)

  stores_has : Has m (end n row.stores) 1
  stores_has = sound.has_at n table m is.signals row.stores _ refl n (omega arith)

  set_fits : (k : ℕ) → k < n → FitsAction m (set_at (at n row.kept) (at n row.next) (0 + k))
  set_fits k l =
      let z : k ≡ 0 + k = omega arith in
      subst (λ i. FitsAction m (set_at (at n row.kept) (at n row.next) i)) z
      (tt, (w, record { signal = _; listed = there row.kept k l; wide = refl; is = tt }, has m (at n row.next + k) _ (there row.next k l)))

  store_fits : FitsAction m (store_under (end n row.stores) (end n row.address) (end n row.value))
  store_fits = ((stores_has, tt), (memory_of shape, held, value_has, (a, address_has)))

  pub acts_fit : EachOf (FitsAction m) m.actions
  acts_fit = subst (EachOf (FitsAction m)) (sym is.actions) (each_joined (FitsAction m) (sets (at n row.kept) (at n row.next) n)
      (store_under (end n row.stores) (end n row.address) (end n row.value) ∷ [])
      (each_spread (FitsAction m) (set_at (at n row.kept) (at n row.next)) 0 n set_fits) (store_fits, tt))

  pub begins : EachOf FitsMemory m.memories
  begins = subst (EachOf FitsMemory) (sym is.memories) (ok.fits, tt)

  pub bank_leaf : IsLeaf m (inputs shape) (is_late shape)
  bank_leaf = sound.leaf laid_by is.instances acts_fit begins

  -- ---- the promise

  abbrev Shown : Reading → Words → Type 0
  Shown = Shows shape

  starts : Shown (initial_reading (Some m)) (begun shape.initial n)
  starts = record {
    sized = refl;
    words = λ k l. ap (λ ms. initial_word (slice_get ms 0) k) is.memories ∙ first_word shape.initial k;
    each = length-replicate {A = ℕ} n 0;
    kept = λ i l. ap initial_signal (there row.kept i l) ∙ sym (zeros_at n i);
  }

  keeps : (h g : Reading) (s : Words) → Agree m h g → Shown h s → Shown g s
  keeps h g s same e = record {
    sized = e.sized;
    words = λ k l. sym (same.words 0 k (memory_of shape) held l) ∙ e.words k l;
    each = e.each;
    kept = λ i l. sym (same.registers (at n row.kept + i) _ (there row.kept i l) tt) ∙ e.kept i l;
  }

  same_at : (h g : Reading) (s : Words) → Shown h s → Shown g s → (x : ℕ) → inputs shape ≤ x → x < place n table (registers table) → h.signal x ≡ g.signal x
  same_at h g s e f x b c =
      let z : at n row.kept + (x - at n row.kept) ≡ x = omega arith in
      let k : x - at n row.kept < n = omega arith in
      subst (λ y. h.signal y ≡ g.signal y) z (e.kept (x - at n row.kept) k ∙ sym (f.kept (x - at n row.kept) k))

  same_words : (h g : Reading) (s : Words) → Shown h s → Shown g s → (j k : ℕ) (z : Memory) → slice_get m.memories j ≡ Some z → k < length z.initial → h.word j k ≡ g.word j k
  same_words h g s e f j k z q l =
      let alone = sole (memory_of shape) z j (sym (ap (λ (ms : List Memory). slice_get ms j) is.memories) ∙ q) in
      let below : k < length shape.initial = subst (λ (x : Memory). k < length x.initial) (sym alone.0) l in
      subst (λ i. h.word i k ≡ g.word i k) (sym alone.1) (e.words k below ∙ sym (f.words k below))

  hears_same : (f g : ℕ → ℕ) → ((j : ℕ) → j < 4 → f j ≡ g j) → ask_of f ≡ ask_of g
  hears_same f g h =
      let with : ℕ → ℕ → ℕ → ℕ → Ask = λ x y z v. record { asks = nat_lt 0 x; writes = nat_lt 0 y; address = z; value = v } in
      ap (λ x. with x (f 1) (f 2) (f 3)) (h 0 (omega arith)) ∙ ap (λ y. with (g 0) y (f 2) (f 3)) (h 1 (omega arith))
      ∙ ap (λ z. with (g 0) (g 1) z (f 3)) (h 2 (omega arith)) ∙ ap (with (g 0) (g 1) (g 2)) (h 3 (omega arith))

  module _ (r : Reading) (s : Words) (obeys : Obeys m r) (shown : Shown r s) where
    told : ByRow n table (Told m r)
    told = sound.told laid_by r obeys

    offer_is : (i : ℕ) → i < n → r.signal (at n row.offers + i) ≡ bit_of (nat_lt 0 (r.signal (at n row.asks + i)))
    offer_is i l = told row.offers i l ∙ a_bit (r.signal (at n row.asks + i)) (obeys.within (at n row.asks + i) _ (there row.asks i l))

    tell_is : (i : ℕ) → i < n → r.signal (at n row.tells + i) ≡ slice_index s.kept i
    tell_is i l = told row.tells i l ∙ shown.kept i l

    module _ (o : Option ℕ) (granted : Grants (bank_machine shape) (bank_places shape) n r o) where
      address_is : r.signal (end n row.address) ≡ pick o 0 (λ k. r.signal (at n row.addresses + k))
      address_is = chain_is r n (at n row.address) (at n row.grants) (at n row.addresses) 0 o (told row.address).0 (told row.address).1 granted.below granted.bits

      value_is : r.signal (end n row.value) ≡ pick o 0 (λ k. r.signal (at n row.values + k))
      value_is = chain_is r n (at n row.value) (at n row.grants) (at n row.values) 0 o (told row.value).0 (told row.value).1 granted.below granted.bits

      stores_is : r.signal (end n row.stores) ≡ pick o 0 (λ k. r.signal (at n row.operations + k))
      stores_is = chain_is r n (at n row.stores) (at n row.grants) (at n row.operations) 0 o (told row.stores).0 (told row.stores).1 granted.below granted.bits

      word_is : r.signal (at n row.word) ≡ slice_index s.words (pick o 0 (λ k. r.signal (at n row.addresses + k)))
      word_is =
          (told row.word)
          ∙ ap (λ (x : Option Memory). if nat_lt (r.signal (end n row.address)) (memory_words x) then r.word 0 (r.signal (end n row.address)) else 0) held
          ∙ read_is (length shape.initial) (r.signal (end n row.address)) (r.word 0 (r.signal (end n row.address))) s.words shown.sized (λ l. shown.words (r.signal (end n row.address)) l)
          ∙ ap (slice_index s.words) address_is

      next_is : (i : ℕ) → i < n → r.signal (at n row.next + i)
          ≡ (if is_granted o i && nat_eq (r.signal (at n row.operations + i)) 0 then slice_index s.words (pick o 0 (λ k. r.signal (at n row.addresses + k))) else r.signal (at n row.kept + i))
      next_is i l =
          (told row.next) i l
          ∙ tested (is_granted o i && nat_eq (r.signal (at n row.operations + i)) 0) (r.signal (at n row.takes + i)) (r.signal (at n row.word)) (r.signal (at n row.kept + i))
          (told row.takes i l
          ∙ both_bits (is_granted o i) (nat_eq (r.signal (at n row.operations + i)) 0) (r.signal (at n row.grants + i)) (r.signal (at n row.reads + i)) (granted.bits i l)
          (told row.reads i l ∙ ap (λ x. bit_of (nat_eq (r.signal (at n row.operations + i)) x)) (told row.none)))
          ∙ ap (λ x. if is_granted o i && nat_eq (r.signal (at n row.operations + i)) 0 then x else r.signal (at n row.kept + i)) word_is

    register_is : (i : ℕ) → i < n → (next_reading m r).signal (at n row.kept + i) ≡ r.signal (at n row.next + i)
    register_is i l =
        ap (λ (xs : List Action). register_after r xs (at n row.kept + i) (r.signal (at n row.kept + i))) is.actions
        ∙ register_after-append r (sets (at n row.kept) (at n row.next) n) (store_under (end n row.stores) (end n row.address) (end n row.value) ∷ []) (at n row.kept + i) (r.signal (at n row.kept + i))
        ∙ if_same (nat_lt 0 (r.signal (end n row.stores)) && true) (register_after r (sets (at n row.kept) (at n row.next) n) (at n row.kept + i) (r.signal (at n row.kept + i)))
        ∙ sets_after r (at n row.kept) (at n row.next) n i (r.signal (at n row.kept + i)) l

    word_after_is : (k : ℕ) → (next_reading m r).word 0 k
        ≡ (if nat_lt 0 (r.signal (end n row.stores)) && true then (if nat_eq (r.signal (end n row.address)) k then r.signal (end n row.value) else r.word 0 k) else r.word 0 k)
    word_after_is k =
        ap (λ (xs : List Action). word_after r xs 0 k (r.word 0 k)) is.actions
        ∙ word_after-append r (sets (at n row.kept) (at n row.next) n) (store_under (end n row.stores) (end n row.address) (end n row.value) ∷ []) 0 k (r.word 0 k)
        ∙ ap (λ old. word_after r (store_under (end n row.stores) (end n row.address) (end n row.value) ∷ []) 0 k old) (sets_words r (at n row.kept) (at n row.next) 0 n 0 k (r.word 0 k))

    silent : (o : Option ℕ) → written m r ≡ printed (bank_machine shape) s (asked (bank_machine shape) (bank_places shape) r) o
    silent o =
        ap (action_bytes m r) is.actions
        ∙ sets_print r (at n row.kept) (at n row.next) m 0 n (store_under (end n row.stores) (end n row.address) (end n row.value) ∷ [])
        ∙ ap (λ (l : List ℕ). l ++ []) (no_bytes (nat_lt 0 (r.signal (end n row.stores)) && true) [])
        ∙ none_printed shape s (asked (bank_machine shape) (bank_places shape) r) o

    moves : (o : Option ℕ) → Grants (bank_machine shape) (bank_places shape) n r o
        → Shown (next_reading m r) (after_grant (bank_machine shape) s (asked (bank_machine shape) (bank_places shape) r) o)
    moves None granted = record {
      sized = shown.sized;
      words = λ k l. word_after_is k
          ∙ ap (λ c. if nat_lt 0 c && true then (if nat_eq (r.signal (end n row.address)) k then r.signal (end n row.value) else r.word 0 k) else r.word 0 k) (stores_is None granted) ∙ shown.words k l;
      each = shown.each;
      kept = λ i l. register_is i l ∙ next_is None granted i l ∙ shown.kept i l;
    }
    moves (Some v) granted =
        let o = Some v in
        let op = r.signal (at n row.operations + v) in
        let b = nat_lt 0 op in
        let place = r.signal (at n row.addresses + v) in
        let d = r.signal (at n row.values + v) in
        record {
          sized = sized_after b s v place d ∙ shown.sized;
          words = λ k l. word_after_is k
              ∙ ap (λ c. if nat_lt 0 c && true then (if nat_eq (r.signal (end n row.address)) k then r.signal (end n row.value) else r.word 0 k) else r.word 0 k) (stores_is o granted)
              ∙ ap (λ c. if b && true then (if nat_eq c k then r.signal (end n row.value) else r.word 0 k) else r.word 0 k) (address_is o granted)
              ∙ ap (λ c. if b && true then (if nat_eq place k then c else r.word 0 k) else r.word 0 k) (value_is o granted)
              ∙ each_word b s k v place d (r.word 0 k) (let e = shown.sized in omega arith) (shown.words k l);
          each = each_after b s v place d ∙ shown.each;
          kept = λ i l. register_is i l ∙ next_is o granted i l
              ∙ each_kept b (nat_eq (r.signal (at n row.operations + i)) 0) s i v place d (r.signal (at n row.kept + i)) (let e = shown.each in let c = granted.below v refl in omega arith)
              (λ e. ap (λ j. nat_eq (r.signal (at n row.operations + j)) 0) e ∙ read_bit op) (shown.kept i l);
        }

  ask_input : (j i : ℕ) → j < 4 → i < n → HasInput m (part_place n j i)
  ask_input zero i l b = bank_leaf.first (at n row.asks + i) (omega arith)
  ask_input (suc zero) i l b = bank_leaf.first (at n row.operations + i) (omega arith)
  ask_input (suc (suc zero)) i l b = bank_leaf.first (at n row.addresses + i) (omega arith)
  ask_input (suc (suc (suc j))) i l b = bank_leaf.first (at n row.values + i) (omega arith)

  pub bank_core : IsCore (bank_machine shape) (bank_places shape) n m
  bank_core = record {
    starts = starts;
    keeps = keeps;
    faithful = λ h g s e f. record {
      registers = sound.same_registers laid_by h g (same_at h g s e f);
      words = same_words h g s e f;
    };
    hears = λ f g h. hears_same f g h;
    offers = λ r s ob sh i l. offer_is r s ob sh i l;
    tells = λ r s ob sh j i l b. tell_is r s ob sh i b;
    moves = λ r s o ob sh g. moves r s ob sh o g;
    writes = λ r s o ob sh g. silent r s ob sh o;
    ask_inputs = ask_input;
    grant_inputs = λ i l. bank_leaf.first (at n row.grants + i) (omega arith);
  }
