-- Two readings that agree in what wires and statements read agree in what these make of it.
use Rattle.std.proofs.Common.{◌≡◌, ℕ, zero, suc, ◌+◌, ◌<◌, ◌≤◌, nat_eq, nat_lt, ◌&&◌, if◌then◌else◌, List, [], ◌∷◌, length, map, slice_get, Option, Some, None, refl, sym, ap}
use Rattle.std.proofs.Common.{◌∙◌, arith, ⊎_elim}
use Rattle.std.proofs.lemmas.Bool.{cases_lt}
use Rattle.lists.proofs.Places.{get_there}
use Rattle.netlist.specs.declared.netlist.Effect.{Effect}
use Rattle.netlist.specs.declared.netlist.Effect.TheVariants.{Set, Store, Write}
use Rattle.netlist.specs.declared.netlist.Action.{Action}
use Rattle.netlist.specs.declared.netlist.Signal.{Signal}
use Rattle.netlist.specs.declared.netlist.Module.{Module}
use Rattle.verilog_meaning.specs.Readings.{Reading, is_on, set_by, stored_by, register_after, word_after, next_reading}
use Rattle.circuit.specs.Rows.{EachOf}
use Rattle.circuit.specs.Modules.{Obeys, Agree}
use Rattle.circuit.proofs.Tables.{operand_of}
use Rattle.leaf_machine.specs.Settled.{effect_operands}
use Rattle.leaf_machine.proofs.SettledLeaf.{value_same}
use Rattle.operator_wires.specs.Gives.{Grows}
use Rattle.operator_wires.specs.Built.{Base, IsEarlier, IsRead, AreWires}
use Rattle.operator_wires.proofs.PutSignals.{listed}
use Rattle.operator_wires.proofs.BuiltWires.{within}
use Rattle.block_datapath.specs.declared.registers.Held.{Held}
use Rattle.thread_slots.specs.declared.stores.Store.{Store as Put}
use Rattle.thread_layout.specs.Actions.{set_action, sets_of, sets_from}
use Rattle.thread_slots.specs.Cells.{store_action}
use Rattle.thread_layout.proofs.ModuleMemories.{each_append}

-- ---- wires

module _ (m : Module) (r q : Reading) (one : Obeys m r) (two : Obeys m q) (agree : Agree m r q) (base : Base) (a b : List Signal) (wires : AreWires base a b)
    (grows : Grows b m.signals) (given : (x : ℕ) → base.first ≤ x → x < length a → r.signal x ≡ q.signal x) where
  below_alike : (n x : ℕ) → x < n → base.first ≤ x → x < length b → r.signal x ≡ q.signal x
  below_alike zero x less first inside = absurd (omega arith)
  below_alike (suc n) x less first inside =
      ⊎_elim (λ (h : x < length a). given x first h)
      (λ (h : length a ≤ x).
      let s = get_there b x inside in
      let w = wires.each x s.0 h s.1 in
      let there = listed b m.signals x s.0 grows s.1 in
      one.equations x s.0 w.right there w.drives
      ∙ value_same m r q w.right agree.words
      (λ y i.
      let read = operand_of (IsRead b base x) base.memory s.0.width w.right w.fits y i in
      below_alike n y (let before = read.1.before in omega arith) read.1.earlier.after (let before = read.1.before in omega arith))
      ∙ sym (two.equations x s.0 w.right there w.drives))
      (cases_lt x (length a))

  pub wires_alike : (x : ℕ) → base.first ≤ x → x < length b → r.signal x ≡ q.signal x
  wires_alike x first inside = below_alike (suc x) x (omega arith) first inside

  pub wire_alike : (y w : ℕ) → IsEarlier b base y w → r.signal y ≡ q.signal y
  wire_alike y w e = wires_alike y e.after (within b base y w e)

-- ---- statements

module _ (r q : Reading) where
  abbrev pub Same : ℕ → Type 0
  Same x = r.signal x ≡ q.signal x

  abbrev pub ActsAlike : Action → Type 0
  ActsAlike a = EachOf Same a.conditions × EachOf Same (effect_operands a.effect)

  on_alike : (xs : List ℕ) → EachOf Same xs → is_on r xs ≡ is_on q xs
  on_alike [] e = refl
  on_alike (x ∷ xs) e = ap (λ n. nat_lt 0 n && is_on r xs) e.0 ∙ ap (λ b. nat_lt 0 (q.signal x) && b) (on_alike xs e.1)

  set_alike : (e : Effect) → EachOf Same (effect_operands e) → (k old : ℕ) → set_by r e k old ≡ set_by q e k old
  set_alike (Set x y) f k old = ap (λ n. if nat_eq x k then n else old) f.0
  set_alike (Store j x y) f k old = refl
  set_alike (Write text arguments) f k old = refl

  store_alike : (e : Effect) → EachOf Same (effect_operands e) → (j k old : ℕ) → stored_by r e j k old ≡ stored_by q e j k old
  store_alike (Set x y) f j k old = refl
  store_alike (Store i x y) f j k old =
      ap (λ n. if nat_eq i j && nat_eq n k then r.signal y else old) f.0
      ∙ ap (λ n. if nat_eq i j && nat_eq (q.signal x) k then n else old) f.1.0
  store_alike (Write text arguments) f j k old = refl

  register_alike : (acts : List Action) → EachOf ActsAlike acts → (k old : ℕ) → register_after r acts k old ≡ register_after q acts k old
  register_alike [] f k old = refl
  register_alike (a ∷ acts) f k old =
      register_alike acts f.1 k (if is_on r a.conditions then set_by r a.effect k old else old)
      ∙ ap (λ b. register_after q acts k (if b then set_by r a.effect k old else old)) (on_alike a.conditions f.0.0)
      ∙ ap (λ n. register_after q acts k (if is_on q a.conditions then n else old)) (set_alike a.effect f.0.1 k old)

  words_alike : (acts : List Action) → EachOf ActsAlike acts → (j k old : ℕ) → word_after r acts j k old ≡ word_after q acts j k old
  words_alike [] f j k old = refl
  words_alike (a ∷ acts) f j k old =
      words_alike acts f.1 j k (if is_on r a.conditions then stored_by r a.effect j k old else old)
      ∙ ap (λ b. word_after q acts j k (if b then stored_by r a.effect j k old else old)) (on_alike a.conditions f.0.0)
      ∙ ap (λ n. word_after q acts j k (if is_on q a.conditions then n else old)) (store_alike a.effect f.0.1 j k old)

  pub next_alike : (m : Module) → Agree m r q → EachOf ActsAlike m.actions → Agree m (next_reading m r) (next_reading m q)
  next_alike m agree f = record {
    registers = λ x s e i. register_alike m.actions f x (r.signal x) ∙ ap (register_after q m.actions x) (agree.registers x s e i);
    words = λ j k s e b. words_alike m.actions f j k (r.word j k) ∙ ap (word_after q m.actions j k) (agree.words j k s e b);
  }

  pub set_acts : (condition register source : ℕ) → Same condition → Same source → ActsAlike (set_action condition register source)
  set_acts condition register source one two = ((one, tt), (two, tt))

  sets_of_alike : (condition : ℕ) (h : Held) (next : Option ℕ) → Same condition → ((y : ℕ) → next ≡ Some y → Same y) → EachOf ActsAlike (sets_of condition h next)
  sets_of_alike condition h None one each = tt
  sets_of_alike condition h (Some y) one each = (set_acts condition h.register y one (each y refl), tt)

  pub sets_alike : (condition : ℕ) (nexts : List ℕ) (n : ℕ) (hs : List Held) → Same condition
      → ((i y : ℕ) (h : Held) → slice_get nexts (n + i) ≡ Some y → slice_get hs i ≡ Some h → Same y) → EachOf ActsAlike (sets_from condition nexts n hs)
  sets_alike condition nexts n [] one each = tt
  sets_alike condition nexts n (h ∷ hs) one each =
      each_append ActsAlike (sets_of condition h (slice_get nexts n)) (sets_from condition nexts (suc n) hs)
      (sets_of_alike condition h (slice_get nexts n) one (λ y p. each 0 y h (let same : n + 0 ≡ n = omega arith in ap (slice_get nexts) same ∙ p) refl))
      (sets_alike condition nexts (suc n) hs one (λ i y k p e. each (suc i) y k (let same : n + suc i ≡ suc n + i = omega arith in ap (slice_get nexts) same ∙ p) e))

  pub stores_alike : (condition : ℕ) (stores : List Put) → Same condition
      → ((k : ℕ) (s : Put) → slice_get stores k ≡ Some s → Same s.condition × Same s.address × Same s.source) → EachOf ActsAlike (map (store_action condition) stores)
  stores_alike condition [] one each = tt
  stores_alike condition (s ∷ stores) one each =
      let own = each 0 s refl in
      (((one, (own.0, tt)), (own.1, (own.2, tt))), stores_alike condition stores one (λ k z e. each (suc k) z e))
