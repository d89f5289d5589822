-- The printer's table of rows keeps the promise of the printer's machine.
use Rattle.std.proofs.Common.{◌∷◌, subst, ◌≡◌, ℕ, zero, suc, ◌+◌, ◌*◌, ◌^◌, ◌<◌, List, [], length, slice_get, Option, Some, None, Bool, true, false, nat_eq, nat_lt}
use Rattle.std.proofs.Common.{if◌then◌else◌, refl, sym, ap, ◌∙◌, arith, add-zero, zero-add}
use Rattle.std.specs.Prelude.{◌&&◌}
use Rattle.std.proofs.lemmas.Bool.{le-leb, eq-eqb}
use Rattle.std.proofs.lemmas.Nat.{div-mul-add}
use Rattle.std.proofs.Math.Nat.{suc-mul}
use Rattle.std.proofs.Math.Arith.{digits_lt}
use Rattle.hls_ints.specs.Residues.{bit_of}
use Rattle.netlist.specs.declared.netlist.Memory.{Memory}
use Rattle.netlist.specs.declared.netlist.Module.{Module}
use Rattle.circuit.specs.Readings.{Reading, width, written, action_bytes}
use Rattle.circuit.specs.declared.table.Row.{Row}
use Rattle.circuit.specs.Rows.{EachOf, spread}
use Rattle.circuit.specs.Modules.{FitsArgument, FitsAction, FitsMemory, Obeys, Has, HasInput, IsLeaf}
use Rattle.circuit.specs.Machines.{Grants, IsCore, asked, printed}
use Rattle.circuit.specs.Fits.{is_late_row, fits}
use Rattle.circuit.proofs.Growth.{slice_get-spread, spread-same}
use Rattle.circuit.proofs.Tables.{Told, has, width_is}
use Rattle.circuit.proofs.TableRows.{ByRow, IsListed, listed}
use Rattle.circuit.proofs.TableSound as sound
use Rattle.circuit.proofs.Edges.{both_bits, a_bit}
use Rattle.circuit.proofs.Chains.{pick, picked, chain_is}
use Rattle.printer_cores.specs.declared.format.Part.{Part}
use Rattle.printer_cores.specs.declared.format.Part.TheVariants.{Text, Unsigned, Signed}
use Rattle.printer_cores.specs.Format.{values_of, arguments_of, IsSite}
use Rattle.printer_cores.specs.declared.printer.Shape.{Shape}
use Rattle.printer_cores.specs.Rows as row
use Rattle.printer_cores.specs.Printer.{table_of, at, results, writes_from, IsShape, IsPrinter}
use Rattle.printer_cores.specs.Machine.{Ask, ask_of, printer_machine, printer_places, inputs, is_late, part_place}
use Rattle.printer_cores.proofs.WrittenSite.{all_missed, one_hit}

-- the rows are in order
rows_fit : (c s : ℕ) → s < 2 ^ 16 → fits (is_late_row (row.rows c s)) [] (row.rows c s) ≡ true
rows_fit c s few =
    let p = eq-eqb c c refl in
    let q = eq-eqb s s refl in
    let n = le-leb (0 + s) (2 ^ 16) (omega arith) in
    simp (p, q, n)

next_group : (a k c j : ℕ) → a + (suc k * c + j) ≡ a + c + (k * c + j)
next_group a k c j = let e = suc-mul k c in omega arith

-- ---- the $writes fit

arguments_fit : (m : Module) (parts : List Part) (place : ℕ) → ((j : ℕ) → j < values_of parts → Has m (place + j) 64) → EachOf (FitsArgument m) (arguments_of place parts)
arguments_fit m [] place h = tt
arguments_fit m (Text bytes ∷ parts) place h = arguments_fit m parts place h
arguments_fit m (Unsigned ∷ parts) place h = (
  (64, subst (λ y. Has m y 64) (add-zero place) (h 0 (omega arith))),
  arguments_fit m parts (place + 1) (λ j l. let z : place + suc j ≡ place + 1 + j = omega arith in subst (λ y. Has m y 64) z (h (suc j) (omega arith))),
)
arguments_fit m (Signed ∷ parts) place h = (
  (64, subst (λ y. Has m y 64) (add-zero place) (h 0 (omega arith))),
  arguments_fit m parts (place + 1) (λ j l. let z : place + suc j ≡ place + 1 + j = omega arith in subst (λ y. Has m y 64) z (h (suc j) (omega arith))),
)

writes_fit : (m : Module) (wires first c : ℕ) → ((j : ℕ) → j < c → Has m (first + j) 64) → (sites : List (List Part)) → EachOf (IsSite c) sites → (k : ℕ) → ((j : ℕ)
    → j < length sites → Has m (wires + (k + j)) 1) → EachOf (FitsAction m) (writes_from wires first k sites)
writes_fit m wires first c values [] e k h = tt
writes_fit m wires first c values (parts ∷ sites) e k h =
    let most = e.0.1 in (
      ((subst (λ y. Has m (wires + y) 1) (add-zero k) (h 0 (omega arith)), tt), arguments_fit m parts first (λ j l. values j (omega arith))),
      writes_fit m wires first c values sites e.1 (k + 1) (λ j l. let z : k + suc j ≡ k + 1 + j = omega arith in subst (λ y. Has m (wires + y) 1) z (h (suc j) (omega arith))),
    )

module _ (shape : Shape) (ok : IsShape shape) (m : Module) (is : IsPrinter shape m) where
  abbrev n : ℕ
  n = shape.threads

  abbrev c : ℕ
  c = shape.values

  abbrev s : ℕ
  s = length shape.sites

  abbrev table : List Row
  table = table_of shape

  abbrev P : ℕ → ℕ
  P = at shape

  pub laid_by : sound.IsLaid n (is_late_row table) [] table m (is_late shape)
  laid_by = record { few = ok.few; passes = rows_fit c s ok.few_sites; signals = is.signals; agrees = sound.late_is n table; words = sound.no_memories m }

  there : ByRow n table (IsListed n table m is.signals)
  there = listed n table m is.signals

  -- ---- the statements

  has_result : (j : ℕ) → j < c → Has m (results shape + j) 64
  has_result j l =
      let z : P row.value + (n * c + j) ≡ results shape + j = omega arith in
      subst (λ y. Has m y 64) z (sound.has_at n table m is.signals row.value _ refl (n * c + j) (omega arith))

  pub acts_fit : EachOf (FitsAction m) m.actions
  acts_fit = subst (EachOf (FitsAction m)) (sym is.actions) (writes_fit m (P row.hits) (results shape) c (λ j l. has_result j l) shape.sites ok.sites 0
      (λ j l. has m (P row.hits + (0 + j)) _ (ap (λ y. slice_get m.signals (P row.hits + y)) (zero-add j) ∙ there row.hits j l)))

  pub begins : EachOf FitsMemory m.memories
  begins = subst (EachOf FitsMemory) (sym is.memories) tt

  pub printer_leaf : IsLeaf m (inputs shape) (is_late shape)
  printer_leaf = sound.leaf laid_by is.instances acts_fit begins

  -- ---- the promise

  module _ (r : Reading) (obeys : Obeys m r) where
    told : ByRow n table (Told m r)
    told = sound.told laid_by r obeys

    offer_is : (i : ℕ) → i < n → r.signal (P row.offers + i) ≡ bit_of (nat_lt 0 (r.signal (P row.asks + i)))
    offer_is i l = told row.offers i l ∙ a_bit (r.signal (P row.asks + i)) (obeys.within (P row.asks + i) _ (there row.asks i l))

    module _ (o : Option ℕ) (granted : Grants (printer_machine shape) (printer_places shape) n r o) where
      going_is : r.signal (P row.going + n) ≡ pick o 0 (λ k. 1)
      going_is =
          picked n (λ k. r.signal (P row.going + k)) (λ k. r.signal (P row.grants + k)) (λ k. 1)
          (λ k l. let z : P row.going + suc k ≡ P row.going + 1 + k = omega arith in
          ap r.signal z ∙ (told row.going).1 k l ∙ ap (λ x. if nat_eq (r.signal (P row.grants + k)) 0 then r.signal (P row.going + k) else x) (told row.one))
          o granted.below granted.bits
          ∙ ap (λ y. pick o y (λ k. 1)) (ap r.signal (add-zero (P row.going)) ∙ (told row.going).0)

      site_is : r.signal (P row.site + n) ≡ pick o 0 (λ k. r.signal (P row.sites + k))
      site_is = chain_is r n (P row.site) (P row.grants) (P row.sites) 0 o (told row.site).0 (told row.site).1 granted.below granted.bits

      hit_is : (b : Bool) (t j : ℕ) → j < s → r.signal (P row.going + n) ≡ bit_of b → r.signal (P row.site + n) ≡ t → r.signal (P row.hits + j) ≡ bit_of (b && nat_eq t j)
      hit_is b t j l g e =
          told row.hits j l
          ∙ both_bits b (nat_eq t j) (r.signal (P row.going + n)) (r.signal (P row.equals + j)) g
          (told row.equals j l
          ∙ ap (λ x. bit_of (nat_eq x (r.signal (P row.numbers + j)))) e ∙ ap (λ x. bit_of (nat_eq t x)) (told row.numbers j l ∙ zero-add j))

      -- the chain of value j
      value_is : (j : ℕ) → j < c → r.signal (results shape + j) ≡ pick o 0 (λ k. r.signal (P row.values + (k * c + j)))
      value_is j l =
          let start : P row.value + (0 * c + j) ≡ P row.value + j = omega arith in
          let end : results shape + j ≡ P row.value + (n * c + j) = omega arith in
          ap r.signal end
          ∙ picked n (λ k. r.signal (P row.value + (k * c + j))) (λ k. r.signal (P row.grants + k)) (λ k. r.signal (P row.values + (k * c + j)))
          (λ k b.
          ap r.signal (next_group (P row.value) k c j) ∙ (told row.value).1 (k * c + j) (digits_lt b l)
          ∙ ap (λ x. if nat_eq (r.signal (P row.grants + x)) 0 then r.signal (P row.value + (k * c + j)) else r.signal (P row.values + (k * c + j))) (div-mul-add k c j l))
          o granted.below granted.bits
          ∙ ap (λ y. pick o y (λ k. r.signal (P row.values + (k * c + j)))) (ap r.signal start ∙ (told row.value).0 j l)

      wide : (j : ℕ) → j < c → width m (results shape + j) ≡ 64
      wide j l = width_is m (results shape + j) 64 (has_result j l)

    written_is : written m r ≡ action_bytes m r (writes_from (P row.hits) (results shape) 0 shape.sites)
    written_is = ap (action_bytes m r) is.actions

    writes : (o : Option ℕ) → Grants (printer_machine shape) (printer_places shape) n r o → written m r ≡ printed (printer_machine shape) tt (asked (printer_machine shape) (printer_places shape) r) o
    writes None granted =
        written_is
        ∙ all_missed m r (P row.hits) (results shape) c (spread (λ j. 0) 0 c)
        (record { values = λ j l. slice_get-spread (λ j. 0) 0 c j l ∙ ap Some (sym (value_is None granted j l)); wide = wide None granted })
        shape.sites 0
        (λ j l. ap (λ x. r.signal (P row.hits + x)) (zero-add j) ∙ hit_is None granted false (r.signal (P row.site + n)) j l (going_is None granted) refl)
    writes (Some w) granted =
        let vs = λ (j : ℕ). r.signal (P row.values + (w * c + j)) in
        written_is
        ∙ one_hit m r (P row.hits) (results shape) c (spread vs 0 c)
        (record { values = λ j l. slice_get-spread vs 0 c j l ∙ ap (λ x. Some (vs x)) (zero-add j) ∙ ap Some (sym (value_is (Some w) granted j l)); wide = wide (Some w) granted })
        shape.sites ok.sites 0 (r.signal (P row.sites + w)) (r.signal (P row.sites + w)) (sym (zero-add (r.signal (P row.sites + w))))
        (λ j l. ap (λ x. r.signal (P row.hits + x)) (zero-add j)
        ∙ hit_is (Some w) granted true (r.signal (P row.sites + w)) j l (going_is (Some w) granted) (site_is (Some w) granted)
        ∙ ap (λ x. bit_of (nat_eq (r.signal (P row.sites + w)) x)) (sym (zero-add j)))

  no_words : (h g : Reading) (j k : ℕ) (z : Memory) → slice_get m.memories j ≡ Some z → k < length z.initial → h.word j k ≡ g.word j k
  no_words h g j k z e l =
      let q : slice_get [] j ≡ Some z = sym (ap (λ (ms : List Memory). slice_get ms j) is.memories) ∙ e in absurd cc

  hears_same : (f g : ℕ → ℕ) → ((j : ℕ) → j < suc (suc c) → f j ≡ g j) → ask_of c f ≡ ask_of c g
  hears_same f g h =
      let with : ℕ → ℕ → List ℕ → Ask = λ a b vs. record { asks = nat_lt 0 a; site = b; values = vs } in
      ap (λ a. with a (f 1) (spread (λ j. f (suc (suc j))) 0 c)) (h 0 (omega arith))
      ∙ ap (λ b. with (g 0) b (spread (λ j. f (suc (suc j))) 0 c)) (h 1 (omega arith))
      ∙ ap (with (g 0) (g 1)) (spread-same (λ j. f (suc (suc j))) (λ j. g (suc (suc j))) 0 c (λ k l.
      let z : suc (suc (0 + k)) ≡ suc (suc k) = ap (λ x. suc (suc x)) (zero-add k) in
      ap f z ∙ h (suc (suc k)) (omega arith) ∙ sym (ap g z)))

  ask_input : (j i : ℕ) → j < suc (suc c) → i < n → HasInput m (part_place shape j i)
  ask_input zero i l b = printer_leaf.first (P row.asks + i) (omega arith)
  ask_input (suc zero) i l b = printer_leaf.first (P row.sites + i) (omega arith)
  ask_input (suc (suc j)) i l b =
      let k : i * c + j < n * c = digits_lt b (let d : j < c = omega arith in d) in
      printer_leaf.first (P row.values + (i * c + j)) (omega arith)

  pub printer_core : IsCore (printer_machine shape) (printer_places shape) n m
  printer_core = record {
    starts = tt;
    keeps = λ h g state a e. tt;
    faithful = λ h g state e f. record { registers = sound.same_registers laid_by h g (λ x a b. absurd (omega arith)); words = no_words h g };
    hears = λ f g h. hears_same f g h;
    offers = λ r t ob e i l. offer_is r ob i l;
    tells = λ r t ob e j i l b. absurd (omega arith);
    moves = λ r t o ob e g. tt;
    writes = λ r t o ob e g. writes r ob o g;
    ask_inputs = ask_input;
    grant_inputs = λ i l. printer_leaf.first (P row.grants + i) (omega arith);
  }
