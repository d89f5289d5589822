-- Whether the edge changes what an instance holds.
use Rattle.std.specs.Prelude.{◌≡◌, ℕ, ◌<◌, Bool, false, not, ◌&&◌, ◌||◌, nat_eq, nat_lt, List, [], ◌∷◌, Option, Some, None, slice_get}
use Rattle.netlist.specs.declared.netlist.Effect.{Effect}
use Rattle.netlist.specs.declared.netlist.Effect.TheVariants.{Set, Store, Write}
use Rattle.netlist.specs.declared.netlist.Action.{Action}
use Rattle.netlist.specs.declared.netlist.Module.{Module}
use Rattle.verilog_meaning.specs.Readings.{Reading, is_on, register_after, word_after, memory_words}
use Rattle.sim_values.specs.declared.edge.Part.{Part}
use Rattle.sim_values.specs.Flat.{Flat, reading}

-- whether a statement that is carried out, with others behind it, has the edge leave another number or word than is held
abbrev pub leaves_other : Module → Reading → Effect → List Action → Bool
leaves_other m r (Set x y) behind = not (nat_eq (r.signal y) (r.signal x)) && not (nat_eq (register_after r behind x (r.signal y)) (r.signal x))
leaves_other m r (Store j x y) behind =
    nat_lt (r.signal x) (memory_words (slice_get m.memories j)) && not (nat_eq (word_after r behind j (r.signal x) (r.signal y)) (r.word j (r.signal x)))
leaves_other m r (Write text arguments) behind = false

abbrev pub alters : Module → Reading → Action → List Action → Bool
alters m r a behind = is_on r a.conditions && leaves_other m r a.effect behind

-- whether one of these statements does
abbrev pub changes : Module → Reading → List Action → Bool
changes m r [] = false
changes m r (a ∷ actions) = alters m r a actions || changes m r actions

-- whether the edge changes a part of a module, and the parts at some places
abbrev pub part_changes : Flat → Part → Option Module → Bool
part_changes f p None = false
part_changes f p (Some m) = changes m (reading p.spot f) m.actions

abbrev pub part_changes_at : List Module → Flat → Option Part → Bool
part_changes_at modules f None = false
part_changes_at modules f (Some p) = part_changes f p (slice_get modules p.module)

abbrev pub parts_change : List Module → List Part → Flat → List ℕ → Bool
parts_change modules parts f [] = false
parts_change modules parts f (q ∷ places) = part_changes_at modules f (slice_get parts q) || parts_change modules parts f places

-- ---- what it means: at the registers that statements set, and at all words

-- some statement sets register x
abbrev pub SomeSets : List Action → ℕ → Type 0
SomeSets actions x = (k : ℕ) × (a : Action) × (y : ℕ) × (slice_get actions k ≡ Some a) × (a.effect ≡ Set x y)

-- the edge leaves another number in a register, whatever it held, or another word
pub data LeavesOther (m : Module) (r : Reading) (actions : List Action) : Type 0 where
  other_number : (x : ℕ) → SomeSets actions x → ((old : ℕ) → register_after r actions x old ≡ r.signal x → ⊥) → LeavesOther m r actions
  other_word : (j k : ℕ) → k < memory_words (slice_get m.memories j) → ((old : ℕ) → word_after r actions j k old ≡ r.word j k → ⊥) → LeavesOther m r actions

-- it leaves each register and each word as it is
pub record LeavesAll (m : Module) (r : Reading) (actions : List Action) : Type 0 where
  pub registers : (x : ℕ) → register_after r actions x (r.signal x) ≡ r.signal x
  pub words : (j k : ℕ) → k < memory_words (slice_get m.memories j) → word_after r actions j k (r.word j k) ≡ r.word j k
