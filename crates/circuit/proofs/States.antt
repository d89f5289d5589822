-- In a net whose widths fit, the initial constants are a state, and each cycle leads from a state to a state.
use Rattle.std.proofs.Common.{◌≡◌, ℕ, zero, suc, ◌^◌, ◌<◌, Bool, true, false, nat_eq, ◌&&◌, if◌then◌else◌, List, [], ◌∷◌, length, Some, slice_get, refl, sym, ap, ◌∙◌, subst, arith}
use Rattle.std.proofs.lemmas.Bool.Decides.{nat_tests}
use Rattle.std.proofs.lemmas.List.{append-nil}
use Rattle.netlist.specs.declared.netlist.Source.{Source}
use Rattle.netlist.specs.declared.netlist.Source.TheVariants.{Input, Register, Assigned, Port}
use Rattle.netlist.specs.declared.netlist.Signal.{Signal}
use Rattle.netlist.specs.declared.netlist.Memory.{Memory}
use Rattle.netlist.specs.declared.netlist.Effect.{Effect}
use Rattle.netlist.specs.declared.netlist.Effect.TheVariants.{Set, Store, Write}
use Rattle.netlist.specs.declared.netlist.Action.{Action}
use Rattle.netlist.specs.declared.netlist.Module.{Module}
use Rattle.verilog_meaning.specs.Readings.{Reading, is_on, set_by, stored_by, register_after, word_after, initial_number, initial_signal, initial_word, initial_reading, or_zero}
use Rattle.verilog_meaning.specs.Cycles.{Path, Valuation, Choice, IsAt, HasMemory, IsState, IsRegister, Cycle, next_at, next_state, initial_state}
use Rattle.circuit.specs.Rows.{EachOf}
use Rattle.circuit.specs.Modules.{Has, FitsEffect, FitsAction, FitsMemory}
use Rattle.circuit.specs.Nets.{FitsSource, FitsNet, FitsStatements}

-- ---- an edge leaves numbers that fit

either_fits : (b : Bool) (w x y : ℕ) → (b ≡ true → x < 2 ^ w) → y < 2 ^ w → (if b then x else y) < 2 ^ w
either_fits true w x y h l = h refl
either_fits false w x y h l = l

module _ (m : Module) (r : Reading) (within : (x : ℕ) (s : Signal) → slice_get m.signals x ≡ Some s → r.signal x < 2 ^ s.width) where
  has_within : (y w : ℕ) → Has m y w → r.signal y < 2 ^ w
  has_within y w h = subst (λ k. r.signal y < 2 ^ k) h.wide (within y h.signal h.listed)

  set_fits : (e : Effect) → FitsEffect m e → (k : ℕ) (s : Signal) → slice_get m.signals k ≡ Some s → (old : ℕ) → old < 2 ^ s.width → set_by r e k old < 2 ^ s.width
  set_fits (Set x y) f k s listed old l =
      either_fits (nat_eq x k) s.width (r.signal y) old
      (λ e.
      let same : x ≡ k = grind (arith, nat_tests) in
      let one : Some f.1.signal ≡ Some s = sym (ap (slice_get m.signals) (sym same) ∙ f.1.listed) ∙ listed in
      let is : f.1.signal ≡ s = cc in
      subst (λ z. r.signal y < 2 ^ z) (sym f.1.wide ∙ ap (λ (t : Signal). t.width) is) (has_within y f.0 f.2)) l
  set_fits (Store j x y) f k s listed old l = l
  set_fits (Write text arguments) f k s listed old l = l

  pub register_fits : (actions : List Action) → EachOf (FitsAction m) actions → (k : ℕ) (s : Signal) → slice_get m.signals k ≡ Some s → (old : ℕ) → old < 2 ^ s.width
      → register_after r actions k old < 2 ^ s.width
  register_fits [] f k s listed old l = l
  register_fits (a ∷ actions) f k s listed old l =
      register_fits actions f.1 k s listed (if is_on r a.conditions then set_by r a.effect k old else old)
      (either_fits (is_on r a.conditions) s.width (set_by r a.effect k old) old (λ e. set_fits a.effect f.0.1 k s listed old l) l)

  store_fits : (e : Effect) → FitsEffect m e → (j k : ℕ) (s : Memory) → slice_get m.memories j ≡ Some s → (old : ℕ) → old < 2 ^ s.width → stored_by r e j k old < 2 ^ s.width
  store_fits (Set x y) f j k s listed old l = l
  store_fits (Store i x y) f j k s listed old l =
      either_fits (nat_eq i j && nat_eq (r.signal x) k) s.width (r.signal y) old
      (λ e.
      let same : i ≡ j = first_true (nat_eq i j) (nat_eq (r.signal x) k) i j e refl in
      let one : Some f.0 ≡ Some s = sym (ap (slice_get m.memories) (sym same) ∙ f.1) ∙ listed in
      let is : f.0 ≡ s = cc in
      subst (λ (t : Memory). r.signal y < 2 ^ t.width) is (has_within y f.0.width f.2)) l
    where
      first_true : (b c : Bool) (i j : ℕ) → (b && c) ≡ true → nat_eq i j ≡ b → i ≡ j
      first_true true c i j e q = grind (arith, nat_tests)
      first_true false c i j e q = cc
  store_fits (Write text arguments) f j k s listed old l = l

  pub word_fits : (actions : List Action) → EachOf (FitsAction m) actions → (j k : ℕ) (s : Memory) → slice_get m.memories j ≡ Some s → (old : ℕ) → old < 2 ^ s.width
      → word_after r actions j k old < 2 ^ s.width
  word_fits [] f j k s listed old l = l
  word_fits (a ∷ actions) f j k s listed old l =
      word_fits actions f.1 j k s listed (if is_on r a.conditions then stored_by r a.effect j k old else old)
      (either_fits (is_on r a.conditions) s.width (stored_by r a.effect j k old) old (λ e. store_fits a.effect f.0.1 j k s listed old l) l)

-- ---- the net

initial_fits : (modules : List Module) (top : Module) (path : Path) (m : Module) (x w : ℕ) (source : Source) → IsRegister source → FitsSource modules top path m x w source
    → initial_number source < 2 ^ w
initial_fits modules top path m x w (Register n) i f = f
initial_fits modules top path m x w Input i f = absurd i
initial_fits modules top path m x w (Assigned v) i f = absurd i
initial_fits modules top path m x w (Port j q) i f = absurd i

-- the element of a place, of a list of which each one has the property
pub one_of : {X : Type 0} (P : X → Type 0) (xs : List X) (i : ℕ) (x : X) → EachOf P xs → slice_get xs i ≡ Some x → P x
one_of P [] i x f e = absurd cc
one_of P (y ∷ xs) zero x f e = let same : y ≡ x = cc in subst P same f.0
one_of P (y ∷ xs) (suc i) x f e = one_of P xs i x f.1 e

pub word_at : (numbers : List ℕ) (w k : ℕ) → EachOf (λ n. n < 2 ^ w) numbers → k < length numbers → or_zero (slice_get numbers k) < 2 ^ w
word_at [] w k f l = absurd (omega arith)
word_at (n ∷ numbers) w zero f l = f.0
word_at (n ∷ numbers) w (suc k) f l = word_at numbers w k f.1 (omega arith)

module _ (modules : List Module) (top : Module) (fits : FitsNet modules top) (statements : FitsStatements modules top) where
  pub initial_is_state : IsState modules top (initial_state modules top)
  initial_is_state = record {
    registers = λ path m x s at i.
        subst (λ n. n < 2 ^ s.width)
        (sym (ap (λ o. (initial_reading o).signal x) at.stands ∙ ap initial_signal at.listed))
        (initial_fits modules top path m x s.width s.source i (fits path m x s at));
    words = λ path m j k s at l.
        subst (λ n. n < 2 ^ s.width)
        (sym (ap (λ o. (initial_reading o).word j k) at.stands ∙ ap (λ o. initial_word o k) at.listed))
        (word_at s.initial s.width k (one_of FitsMemory m.memories j s (statements.begins path m at.stands) at.listed) l);
  }

  same_register : (h g : Valuation) (c : Choice) (out : List ℕ) (cycle : Cycle modules top h c g out) (path : Path) (m : Module) (x : ℕ) (s : Signal) → IsAt modules top path m x s
      → IsRegister s.source → (next_state modules top cycle.through path).signal x ≡ (g path).signal x
  same_register h g c out cycle path m x s at i =
      let P : Path → Type 0 = λ q. IsAt modules top q m x s → (next_state modules top cycle.through q).signal x ≡ (g q).signal x in
      subst P (append-nil path) (λ there. cycle.next.registers path m x s there i) at

  same_word : (h g : Valuation) (c : Choice) (out : List ℕ) (cycle : Cycle modules top h c g out) (path : Path) (m : Module) (j k : ℕ) (s : Memory)
      → HasMemory modules top path m j s → k < length s.initial → (next_state modules top cycle.through path).word j k ≡ (g path).word j k
  same_word h g c out cycle path m j k s at l =
      let P : Path → Type 0 = λ q. HasMemory modules top q m j s → (next_state modules top cycle.through q).word j k ≡ (g q).word j k in
      subst P (append-nil path) (λ there. cycle.next.words path m j k s there l) at

  pub cycle_keeps : (h g : Valuation) (c : Choice) (out : List ℕ) → IsState modules top h → Cycle modules top h c g out → IsState modules top g
  cycle_keeps h g c out state cycle =
      let v = cycle.through in
      record {
        registers = λ path m x s at i.
            let within : (y : ℕ) (t : Signal) → slice_get m.signals y ≡ Some t
            → (v path).signal y < 2 ^ t.width = λ y t e. cycle.settled.within path m y t (record { stands = at.stands; listed = e }) in
            subst (λ n. n < 2 ^ s.width)
            (sym (ap (λ o. (next_at modules top o (v path)).signal x) at.stands) ∙ same_register h g c out cycle path m x s at i)
            (register_fits m (v path) within m.actions (statements.acts path m at.stands) x s at.listed ((v path).signal x) (within x s at.listed));
        words = λ path m j k s at l.
            let within : (y : ℕ) (t : Signal) → slice_get m.signals y ≡ Some t
            → (v path).signal y < 2 ^ t.width = λ y t e. cycle.settled.within path m y t (record { stands = at.stands; listed = e }) in
            subst (λ n. n < 2 ^ s.width)
            (sym (ap (λ o. (next_at modules top o (v path)).word j k) at.stands) ∙ same_word h g c out cycle path m j k s at l)
            (word_fits m (v path) within m.actions (statements.acts path m at.stands) j k s at.listed ((v path).word j k)
            (subst (λ n. n < 2 ^ s.width) (sym (cycle.settled.words path j k)) (state.words path m j k s at l)));
      }

pub keeps_states : (modules : List Module) (top : Module) → FitsNet modules top → FitsStatements modules top
    → IsState modules top (initial_state modules top) × ((h g : Valuation) (c : Choice) (out : List ℕ) → IsState modules top h → Cycle modules top h c g out → IsState modules top g)
keeps_states modules top fits statements = (initial_is_state modules top fits statements, cycle_keeps modules top fits statements)
