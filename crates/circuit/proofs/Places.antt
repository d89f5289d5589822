-- Each place that a leaf module speaks of is one of its own.
use Rattle.std.proofs.Common.{◌≡◌, ℕ, zero, suc, ◌<◌, List, [], ◌∷◌, length, map, Some}
use Rattle.std.proofs.Common.{refl, sym, subst, inl, inr}
use Rattle.std.specs.Prelude.{slice_get}
use Rattle.std.proofs.lemmas.Option.{same_Some, none-some, slice_get_within}
use Rattle.netlist.specs.declared.netlist.Value.{Value}
use Rattle.netlist.specs.declared.netlist.Value.TheVariants.{Copy, Constant, BitwiseNot, Binary, SignedLess, ArithmeticShiftRight, Conditional, Division, SignedDivision}
use Rattle.netlist.specs.declared.netlist.Value.TheVariants.{MemoryRead, Select, Concatenation, Replication}
use Rattle.netlist.specs.declared.netlist.Memory.{Memory}
use Rattle.netlist.specs.declared.netlist.Argument.{Argument}
use Rattle.netlist.specs.declared.netlist.Argument.TheVariants.{Unsigned, Signed}
use Rattle.netlist.specs.declared.netlist.Effect.{Effect}
use Rattle.netlist.specs.declared.netlist.Effect.TheVariants.{Set, Store, Write}
use Rattle.netlist.specs.declared.netlist.Action.{Action}
use Rattle.netlist.specs.declared.netlist.Module.{Module}
use Rattle.netlist.specs.Laid.{AreSignals, AreMemories}
use Rattle.netlist.specs.Laid.{operands, memories_read, argument_place, effect_signals, memories_stored, IsLaidAction}
use Rattle.verilog_meaning.specs.Threads as threads
use Rattle.circuit.specs.Rows.{EachOf}
use Rattle.circuit.specs.Modules.{Has, FitsValue, FitsArgument, FitsEffect, FitsAction}
use Rattle.circuit.proofs.Tables.{operand_of}
use Rattle.circuit.proofs.Filters.{each_there}
use Rattle.circuit.proofs.LeafForm.{same_operands}

module _ (m : Module) where
  has_inside : (x w : ℕ) → Has m x w → x < length m.signals
  has_inside x w h = slice_get_within m.signals x h.signal h.listed

  operands_inside : (xs : List ℕ) → ((y : ℕ) → threads.IsOneOf y xs → (u : ℕ) × Has m y u) → AreSignals m xs
  operands_inside [] h k x e = absurd (none-some x e)
  operands_inside (y ∷ ys) h zero x e = let o = h y (inl refl) in subst (λ z. z < length m.signals) (same_Some y x e) (has_inside y o.0 o.1)
  operands_inside (y ∷ ys) h (suc k) x e = operands_inside ys (λ z i. h z (inr i)) k x e

  all_inside : (w : ℕ) (xs : List ℕ) → EachOf (λ x. Has m x w) xs → AreSignals m xs
  all_inside w xs e k x h = has_inside x w (each_there (λ y. Has m y w) xs e k x h)

  one_inside : (x : ℕ) (xs : List ℕ) → x < length m.signals → AreSignals m xs → AreSignals m (x ∷ xs)
  one_inside x xs l h zero y e = subst (λ z. z < length m.signals) (same_Some x y e) l
  one_inside x xs l h (suc k) y e = h k y e

  none_inside : AreSignals m []
  none_inside k x e = absurd (none-some x e)

  no_memories : AreMemories m []
  no_memories k x e = absurd (none-some x e)

  one_memory : (j : ℕ) (c : Memory) → slice_get m.memories j ≡ Some c → AreMemories m (j ∷ [])
  one_memory j c e zero y h = subst (λ z. z < length m.memories) (same_Some j y h) (slice_get_within m.memories j c e)
  one_memory j c e (suc k) y h = absurd (none-some y h)

  value_memories : (w : ℕ) (v : Value) → FitsValue (Has m) (λ j. slice_get m.memories j) w v → AreMemories m (memories_read v)
  value_memories w (MemoryRead j x) f = one_memory j f.0 f.1
  value_memories w (Copy x) f = no_memories
  value_memories w (Constant n) f = no_memories
  value_memories w (BitwiseNot x) f = no_memories
  value_memories w (Binary operator x y) f = no_memories
  value_memories w (SignedLess x y) f = no_memories
  value_memories w (ArithmeticShiftRight x y) f = no_memories
  value_memories w (Conditional c x y) f = no_memories
  value_memories w (Division operator x y) f = no_memories
  value_memories w (SignedDivision operator x y) f = no_memories
  value_memories w (Select x high low) f = no_memories
  value_memories w (Concatenation xs) f = no_memories
  value_memories w (Replication n x) f = no_memories

  pub value_places : (w : ℕ) (v : Value) → FitsValue (Has m) (λ j. slice_get m.memories j) w v → AreSignals m (operands v) × AreMemories m (memories_read v)
  value_places w v f = (
    subst (AreSignals m) (sym (same_operands v)) (operands_inside (threads.operands v) (operand_of (Has m) (λ j. slice_get m.memories j) w v f)),
    value_memories w v f,
  )

  arguments_inside : (arguments : List Argument) → EachOf (FitsArgument m) arguments → AreSignals m (map argument_place arguments)
  arguments_inside [] e = none_inside
  arguments_inside (Unsigned x ∷ arguments) e = one_inside x (map argument_place arguments) (has_inside x e.0.0 e.0.1) (arguments_inside arguments e.1)
  arguments_inside (Signed x ∷ arguments) e = one_inside x (map argument_place arguments) (has_inside x e.0.0 e.0.1) (arguments_inside arguments e.1)

  effect_places : (effect : Effect) → FitsEffect m effect → AreSignals m (effect_signals effect) × AreMemories m (memories_stored effect)
  effect_places (Set x y) f =
      let r = f.1 in (
        one_inside x (y ∷ []) (slice_get_within m.signals x r.signal r.listed) (one_inside y [] (has_inside y f.0 f.2) none_inside),
        no_memories,
      )
  effect_places (Store j x y) f = (
    one_inside x (y ∷ []) (has_inside x f.3.0 f.3.1) (one_inside y [] (has_inside y f.0.width f.2) none_inside),
    one_memory j f.0 f.1,
  )
  effect_places (Write text arguments) f = (arguments_inside arguments f, no_memories)

  pub action_laid : (a : Action) → FitsAction m a → IsLaidAction m a
  action_laid a f = let e = effect_places a.effect f.1 in record { conditions = all_inside 1 a.conditions f.0; signals = e.0; memories = e.1 }
