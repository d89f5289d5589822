-- A laid module has signals of 1 to 64 bits, and its right sides and values read only these.
use Rattle.std.specs.Prelude.{◌≡◌, ℕ, suc, ◌+◌, ◌-◌, ◌==◌, ◌<◌, ◌≤◌, Bool, true, false, ◌&&◌, nat_lt, nat_le, List, [], ◌∷◌, map, length, Option, Some, None, slice_get, if◌then◌else◌, refl}
use Rattle.std.proofs.Common.{ap, subst, arith}
use Rattle.std.proofs.lemmas.Bool.{ltb-true, leb-true, and_parts}
use Rattle.lists.proofs.Places.{get_there}
use Rattle.verilog_tree.specs.Scope.{is_clk}
use Rattle.netlist.specs.declared.netlist.Value.{Value}
use Rattle.netlist.specs.declared.netlist.Value.TheVariants as v
use Rattle.netlist.specs.declared.netlist.Source.{Source}
use Rattle.netlist.specs.declared.netlist.Source.TheVariants as source
use Rattle.netlist.specs.declared.netlist.Signal.{Signal}
use Rattle.netlist.specs.declared.netlist.Argument.{Argument}
use Rattle.netlist.specs.declared.netlist.Argument.TheVariants.{Unsigned, Signed}
use Rattle.netlist.specs.declared.netlist.Effect.{Effect}
use Rattle.netlist.specs.declared.netlist.Effect.TheVariants as effect
use Rattle.netlist.specs.declared.netlist.Action.{Action}
use Rattle.netlist.specs.declared.netlist.Module.{Module}
use Rattle.netlist.specs.Laid as laid
use Rattle.netlist.specs.Laid.{AreSignals, EachAt, IsSource, IsLaidModule, argument_place, effect_signals}
use Rattle.netlist.specs.Sound.{width_read, value_fits, source_fits}
use Rattle.netlist.specs.Sound as sound
use Rattle.verilog_meaning.specs.Readings.{width, signal_width}
use Rattle.verilog_meaning.specs.Threads.{operands}
use Rattle.circuit.specs.Rows.{EachOf}
use Rattle.sim_values.specs.Flat.{IsWide, HasRoom, IsNarrowSource, IsNarrowArgument, IsNarrowEffect, IsNarrowAction}

same_operands : (a : Value) → laid.operands a ≡ operands a
same_operands (v.Copy x) = refl
same_operands (v.Constant n) = refl
same_operands (v.BitwiseNot x) = refl
same_operands (v.Binary operator x y) = refl
same_operands (v.SignedLess x y) = refl
same_operands (v.ArithmeticShiftRight x y) = refl
same_operands (v.Conditional c x y) = refl
same_operands (v.Division operator x y) = refl
same_operands (v.SignedDivision operator x y) = refl
same_operands (v.MemoryRead j x) = refl
same_operands (v.Select x high low) = refl
same_operands (v.Concatenation xs) = refl
same_operands (v.Replication n x) = refl

module _ (m : Module) (before : List Module) (is : IsLaidModule before m) where
  one_wide : (x : ℕ) → x < length m.signals → IsWide m x
  one_wide x l =
      let s = get_there m.signals x l in
      let w : width m x ≡ (s.0).width = ap signal_width s.1 in
      let at = is.signals x s.0 s.1 in
      (let low = at.low in omega arith, let high = at.high in omega arith)

  all_wide : (xs : List ℕ) → AreSignals m xs → EachOf (IsWide m) xs
  all_wide [] are = tt
  all_wide (x ∷ xs) are = (one_wide x (are 0 x refl), all_wide xs (λ k y e. are (suc k) y e))

  read_most : (b : Bool) (w : ℕ) → w ≤ 64 → (if b then 0 else w) ≤ 64
  read_most true w l = omega arith
  read_most false w l = l

  width_most : (o : Option Signal) (x : ℕ) → slice_get m.signals x ≡ o → width_read m o ≤ 64
  width_most None x e = omega arith
  width_most (Some s) x e = read_most (is_clk s.name) s.width (is.signals x s e).high

  room : (a : Value) (w : ℕ) → value_fits m a w ≡ true → HasRoom a
  room (v.Select x high low) w e =
      let rest = (and_parts (nat_le low high) (nat_lt high (sound.width m x) && (nat_lt 1 (sound.width m x) && w == high - low + 1)) e).1 in
      let l = ltb-true high (sound.width m x) (and_parts (nat_lt high (sound.width m x)) (nat_lt 1 (sound.width m x) && w == high - low + 1) rest).0 in
      let most : sound.width m x ≤ 64 = width_most (slice_get m.signals x) x refl in
      (leb-true low high (and_parts (nat_le low high) (nat_lt high (sound.width m x) && (nat_lt 1 (sound.width m x) && w == high - low + 1)) e).0, omega arith)
  room (v.Copy x) w e = tt
  room (v.Constant n) w e = tt
  room (v.BitwiseNot x) w e = tt
  room (v.Binary operator x y) w e = tt
  room (v.SignedLess x y) w e = tt
  room (v.ArithmeticShiftRight x y) w e = tt
  room (v.Conditional c x y) w e = tt
  room (v.Division operator x y) w e = tt
  room (v.SignedDivision operator x y) w e = tt
  room (v.MemoryRead j x) w e = tt
  room (v.Concatenation xs) w e = tt
  room (v.Replication n x) w e = tt

  pub narrow_source : (x w : ℕ) (out : Bool) (s : Source) → IsSource before m x out s → source_fits m s w ≡ true → IsNarrowSource m s
  narrow_source x w out source.Input h e = tt
  narrow_source x w out (source.Register n) h e = tt
  narrow_source x w out (source.Port i port) h e = tt
  narrow_source x w out (source.Assigned a) h e =
      record { wide = subst (EachOf (IsWide m)) (same_operands a) (all_wide (laid.operands a) h.0); room = room a w e }

  narrow_arguments : (arguments : List Argument) → AreSignals m (map argument_place arguments) → EachOf (IsNarrowArgument m) arguments
  narrow_arguments [] are = tt
  narrow_arguments (Unsigned x ∷ arguments) are = (tt, narrow_arguments arguments (λ k y e. are (suc k) y e))
  narrow_arguments (Signed x ∷ arguments) are = (one_wide x (are 0 x refl), narrow_arguments arguments (λ k y e. are (suc k) y e))

  narrow_effect : (e : Effect) → AreSignals m (effect_signals e) → IsNarrowEffect m e
  narrow_effect (effect.Set x y) are = tt
  narrow_effect (effect.Store j x y) are = tt
  narrow_effect (effect.Write text arguments) are = narrow_arguments arguments are

  pub narrow_actions : (actions : List Action) → EachAt actions (λ k a. AreSignals m (effect_signals a.effect)) → EachOf (IsNarrowAction m) actions
  narrow_actions [] are = tt
  narrow_actions (a ∷ actions) are = (narrow_effect a.effect (are 0 a refl), narrow_actions actions (λ k b e. are (suc k) b e))
