-- The statements of a thread's module: each sets a register to a number of its width, and each register is set by the statement
-- of its own number.
use Rattle.std.proofs.Common.{◌≡◌, ℕ, zero, suc, ◌+◌, ◌<◌, List, [], ◌∷◌, ◌++◌, length, map, Option, Some, None, refl, sym, ap, subst, ◌∙◌, arith}
use Rattle.std.specs.Prelude.{slice_get}
use Rattle.netlist.specs.declared.netlist.Action.{Action}
use Rattle.netlist.specs.declared.netlist.Signal.{Signal}
use Rattle.netlist.specs.declared.netlist.Source.TheVariants.{Register}
use Rattle.netlist.specs.declared.netlist.Source.{Source}
use Rattle.netlist.specs.declared.netlist.Memory.{Memory}
use Rattle.netlist.specs.declared.netlist.Module.{Module}
use Rattle.verilog_meaning.specs.Cycles.{IsRegister}
use Rattle.circuit.specs.Rows.{EachOf}
use Rattle.circuit.specs.Modules.{Has, HasRegister}
use Rattle.module_sound.specs.Grades.{ActsRight}
use Rattle.operator_wires.specs.Gives.{Grows}
use Rattle.operator_wires.specs.Built.{Base, IsEarlier}
use Rattle.operator_wires.proofs.PutSignals.{listed}
use Rattle.block_datapath.specs.declared.registers.Held.{Held}
use Rattle.thread_slots.specs.Slots.{StandsAt}
use Rattle.thread_layout.specs.Memories.{control_base}
use Rattle.thread_slots.specs.declared.stores.Store.{Store}
use Rattle.thread_slots.specs.Stores.{IsRightStore}
use Rattle.thread_slots.specs.Cells.{store_action}
use Rattle.thread_layout.specs.Actions.{set_action, sets_of, sets_from}
use Rattle.thread_layout.proofs.ModuleMemories.{each_append}

pub stands_register : (m : Module) (place w n : ℕ) → StandsAt m.signals place w (Register n) → HasRegister m place w
stands_register m place w n t = record { signal = t.signal; listed = t.listed; wide = t.wide; is = subst (λ (d : Source). IsRegister d) (sym t.drives) tt }

module _ (m : Module) (a : List Signal) (g : Grows a m.signals) (condition : ℕ) (bit : IsEarlier a control_base condition 1) where
  has_of : (y w : ℕ) → IsEarlier a control_base y w → Has m y w
  has_of y w e = record { signal = e.signal; listed = listed a m.signals y e.signal g e.listed; wide = e.wide }

  pub set_right : (register source w : ℕ) → HasRegister m register w → IsEarlier a control_base source w → ActsRight m (set_action condition register source)
  set_right register source w here e = record {
    bits = (has_of condition 1 bit, tt);
    unclocked = ((let after = bit.after in let z : 0 < condition = omega arith in z), tt);
    sets = record {
      fits = (w, here, has_of source w e);
      unclocked = ((let after = e.after in let z : 0 < source = omega arith in z), tt);
      silent = refl;
    };
  }

  sets_of_right : (h : Held) (next : Option ℕ) → HasRegister m h.register h.width → ((y : ℕ) → next ≡ Some y → IsEarlier a control_base y h.width) →
      EachOf (ActsRight m) (sets_of condition h next)
  sets_of_right h None here e = tt
  sets_of_right h (Some y) here e = (set_right h.register y h.width here (e y refl), tt)

  pub sets_right : (nexts : List ℕ) (n : ℕ) (hs : List Held) → ((i : ℕ) (h : Held) → slice_get hs i ≡ Some h → HasRegister m h.register h.width)
      → ((i y : ℕ) (h : Held) → slice_get nexts (n + i) ≡ Some y → slice_get hs i ≡ Some h → IsEarlier a control_base y h.width) →
      EachOf (ActsRight m) (sets_from condition nexts n hs)
  sets_right nexts n [] here e = tt
  sets_right nexts n (h ∷ hs) here e =
      each_append (ActsRight m) (sets_of condition h (slice_get nexts n)) (sets_from condition nexts (suc n) hs)
      (sets_of_right h (slice_get nexts n) (here 0 h refl) (λ y p. e 0 y h (let same : n + 0 ≡ n = omega arith in ap (slice_get nexts) same ∙ p) refl))
      (sets_right nexts (suc n) hs (λ i k q. here (suc i) k q)
      (λ i y k p q. e (suc i) y k (let same : n + suc i ≡ suc n + i = omega arith in ap (slice_get nexts) same ∙ p) q))

-- a store
module _ (m : Module) (a b : List Signal) (base : Base) (some : 0 < base.first) (g : Grows a m.signals) (h : Grows b m.signals) (condition : ℕ)
    (bit : IsEarlier a control_base condition 1)
    (memories : (j : ℕ) (c : Memory) → base.memory j ≡ Some c → slice_get m.memories j ≡ Some c) where
  store_right : (s : Store) → IsRightStore base b s → ActsRight m (store_action condition s)
  store_right s t = record {
    bits = (has_of m a g condition bit condition 1 bit, (has_in s.condition 1 t.condition, tt));
    unclocked = ((let after = bit.after in let z : 0 < condition = omega arith in z), ((let after = t.condition.after in let z : 0 < s.condition = omega arith in z), tt));
    sets = record {
      fits = (t.memory, memories s.memory t.memory t.listed, has_in s.source t.memory.width t.source, (t.wide, has_in s.address t.wide t.address));
      unclocked = ((let after = t.address.after in let z : 0 < s.address = omega arith in z), ((let after = t.source.after in let z : 0 < s.source = omega arith in z), tt));
      silent = refl;
    };
  }
    where
      has_in : (y w : ℕ) → IsEarlier b base y w → Has m y w
      has_in y w e = record { signal = e.signal; listed = listed b m.signals y e.signal h e.listed; wide = e.wide }

  pub stores_right : (stores : List Store) → ((k : ℕ) (s : Store) → slice_get stores k ≡ Some s → IsRightStore base b s) →
      EachOf (ActsRight m) (map (store_action condition) stores)
  stores_right [] each = tt
  stores_right (s ∷ stores) each = (store_right s (each 0 s refl), stores_right stores (λ k z e. each (suc k) z e))

-- ---- the statement of a number

module _ (condition : ℕ) (nexts : List ℕ) where
  -- each of these registers has a next number
  abbrev pub HaveNexts : ℕ → List Held → Type 0
  HaveNexts n hs = (i : ℕ) → i < length hs → (y : ℕ) × (slice_get nexts (n + i) ≡ Some y)

  nexts_behind : (n : ℕ) (h : Held) (hs : List Held) → HaveNexts n (h ∷ hs) → HaveNexts (suc n) hs
  nexts_behind n h hs t i less = let f = t (suc i) (omega arith) in (f.0, (let same : suc n + i ≡ n + suc i = omega arith in ap (slice_get nexts) same ∙ f.1))

  one_set : (n : ℕ) (h : Held) (hs : List Held) (more : List Action) (y : ℕ) → slice_get nexts n ≡ Some y → sets_from condition nexts n (h ∷ hs) ++ more
      ≡ set_action condition h.register y ∷ (sets_from condition nexts (suc n) hs ++ more)
  one_set n h hs more y e = ap (λ o. (sets_of condition h o ++ sets_from condition nexts (suc n) hs) ++ more) e

  first_next : (n : ℕ) (h : Held) (hs : List Held) → HaveNexts n (h ∷ hs) → (y : ℕ) × (slice_get nexts n ≡ Some y)
  first_next n h hs t = let f = t 0 (omega arith) in (f.0, (let same : n ≡ n + 0 = omega arith in ap (slice_get nexts) same ∙ f.1))

  pub sets_at : (n : ℕ) (hs : List Held) (more : List Action) (i : ℕ) (h : Held) → HaveNexts n hs → slice_get hs i ≡ Some h
      → (y : ℕ) × (slice_get (sets_from condition nexts n hs ++ more) i ≡ Some (set_action condition h.register y))
  sets_at n [] more i h t e = absurd cc
  sets_at n (z ∷ hs) more zero h t e =
      let f = first_next n z hs t in
      let same : z ≡ h = cc in
      (f.0, ap (λ l. slice_get l 0) (one_set n z hs more f.0 f.1) ∙ ap (λ (k : Held). Some (set_action condition k.register f.0)) same)
  sets_at n (z ∷ hs) more (suc i) h t e =
      let f = first_next n z hs t in
      let rest = sets_at (suc n) hs more i h (nexts_behind n z hs t) e in
      (rest.0, ap (λ l. slice_get l (suc i)) (one_set n z hs more f.0 f.1) ∙ rest.1)

  pub sets_past : (n : ℕ) (hs : List Held) (more : List Action) (k : ℕ) → HaveNexts n hs → slice_get (sets_from condition nexts n hs ++ more) (length hs + k) ≡ slice_get more k
  sets_past n [] more k t = (let same : 0 + k ≡ k = omega arith in ap (slice_get more) same)
  sets_past n (z ∷ hs) more k t =
      let f = first_next n z hs t in
      let same : suc (length hs) + k ≡ suc (length hs + k) = omega arith in
      ap (slice_get (sets_from condition nexts n (z ∷ hs) ++ more)) same
      ∙ ap (λ l. slice_get l (suc (length hs + k))) (one_set n z hs more f.0 f.1) ∙ sets_past (suc n) hs more k (nexts_behind n z hs t)
