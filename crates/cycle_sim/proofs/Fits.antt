-- What the tests of a sound module say of widths: each right side, statement and memory fits.
use Rattle.std.specs.Prelude.{◌≡◌, ℕ, suc, ◌+◌, ◌-◌, ◌*◌, ◌==◌, ◌^◌, ◌<◌, Bool, true, false, ◌&&◌, nat_lt, nat_le, List, [], ◌∷◌, length, Option, Some, None, slice_get, if◌then◌else◌, refl}
use Rattle.std.proofs.Common.{ap, sym, ◌∙◌, subst, arith}
use Rattle.std.proofs.lemmas.Bool.{eqb-true, ltb-true, leb-true, and_parts}
use Rattle.lists.proofs.Places.{get_there}
use Rattle.verilog_tree.specs.Scope.{is_clk}
use Rattle.verilog_tree.specs.Rules.{all_right, Between, values_in, has_values}
use Rattle.verilog_tree.specs.declared.tree.BinaryOperator.{BinaryOperator}
use Rattle.verilog_tree.specs.declared.tree.BinaryOperator.TheVariants.{Add, Subtract, Multiply, And, Or, Xor, Equal, Less, ShiftLeft, ShiftRight}
use Rattle.netlist.specs.declared.netlist.Value.{Value}
use Rattle.netlist.specs.declared.netlist.Value.TheVariants as v
use Rattle.netlist.specs.declared.netlist.Source.{Source}
use Rattle.netlist.specs.declared.netlist.Source.TheVariants as source
use Rattle.netlist.specs.declared.netlist.Signal.{Signal}
use Rattle.netlist.specs.declared.netlist.Memory.{Memory}
use Rattle.netlist.specs.declared.netlist.Argument.{Argument}
use Rattle.netlist.specs.declared.netlist.Argument.TheVariants.{Unsigned, Signed}
use Rattle.netlist.specs.declared.netlist.Effect.{Effect}
use Rattle.netlist.specs.declared.netlist.Effect.TheVariants as effect
use Rattle.netlist.specs.declared.netlist.Action.{Action}
use Rattle.netlist.specs.declared.netlist.Module.{Module}
use Rattle.netlist.specs.Laid.{AreMemories, argument_place, memories_read, memories_stored}
use Rattle.netlist.specs.Sound.{width_read, width_set, width_of_register, register_width, width_of_memory, words_of_memory, memory_width, memory_words, is_read, has_width, joint_width, is_filled}
use Rattle.netlist.specs.Sound.{value_fits, effect_fits, action_fits}
use Rattle.netlist.specs.Sound as sound
use Rattle.verilog_meaning.specs.Cycles.{IsRegister}
use Rattle.circuit.specs.Rows.{EachOf}
use Rattle.circuit.specs.Modules.{Has, HasRegister, FitsBinary, FitsParts, FitsValue, FitsArgument, FitsEffect, FitsAction, FitsMemory}

each_right : {X : Type 0} (P : X → Type 0) (p : X → Bool) → ((x : X) → p x ≡ true → P x) → (xs : List X) → all_right p xs ≡ true → EachOf P xs
each_right P p f [] e = tt
each_right P p f (x ∷ xs) e = (f x (and_parts (p x) (all_right p xs) e).0, each_right P p f xs (and_parts (p x) (all_right p xs) e).1)

pub each_listed : {X : Type 0} (P : X → Type 0) (xs : List X) → ((k : ℕ) (x : X) → slice_get xs k ≡ Some x → P x) → EachOf P xs
each_listed P [] f = tt
each_listed P (x ∷ xs) f = (f 0 x refl, each_listed P xs (λ k y e. f (suc k) y e))

read_by : (clock : Bool) (w : ℕ) → 0 < (if clock then 0 else w) → w ≡ (if clock then 0 else w)
read_by true w l = absurd (omega arith)
read_by false w l = refl

module _ (m : Module) where
  read_at : (o : Option Signal) → 0 < width_read m o → (s : Signal) × (o ≡ Some s) × (s.width ≡ width_read m o)
  read_at None l = absurd (omega arith)
  read_at (Some s) l = (s, refl, read_by (is_clk s.name) s.width l)

  -- a signal that may be read has the width that is read
  pub has_read : (x : ℕ) → 0 < sound.width m x → Has m x (sound.width m x)
  has_read x l = let r = read_at (slice_get m.signals x) l in record { signal = r.0; listed = r.1; wide = r.2 }

  -- so has the signal itself
  pub wide_read : (x : ℕ) (s : Signal) → slice_get m.signals x ≡ Some s → 0 < sound.width m x → s.width ≡ sound.width m x
  wide_read x s e l =
      let there : sound.width m x ≡ width_read m (Some s) = ap (width_read m) e in
      let l2 : 0 < width_read m (Some s) = omega (arith, there, l) in
      read_by (is_clk s.name) s.width l2 ∙ sym there

  read : (x : ℕ) → is_read m x ≡ true → Has m x (sound.width m x)
  read x e = has_read x (ltb-true 0 (sound.width m x) e)

  pub has_it : (x w : ℕ) → has_width m x w ≡ true → Has m x w
  has_it x w e =
      subst (Has m x) (eqb-true (sound.width m x) w (and_parts (is_read m x) (sound.width m x == w) e).1) (read x (and_parts (is_read m x) (sound.width m x == w) e).0)

  -- where it has a width, that is not 0
  wide : (x w : ℕ) → has_width m x w ≡ true → 0 < w
  wide x w e =
      let l = ltb-true 0 (sound.width m x) (and_parts (is_read m x) (sound.width m x == w) e).0 in
      let q = eqb-true (sound.width m x) w (and_parts (is_read m x) (sound.width m x == w) e).1 in
      omega (arith, l, q)

  -- ---- right sides

  pair : (x y : ℕ) → has_width m x (sound.width m y) ≡ true → (w : ℕ) × Has m x w × Has m y w
  pair x y e = (sound.width m y, has_it x (sound.width m y) e, has_read y (wide x (sound.width m y) e))

  compared : (w x y : ℕ) → (w == 1 && has_width m x (sound.width m y)) ≡ true → (w ≡ 1) × ((u : ℕ) × Has m x u × Has m y u)
  compared w x y e = (eqb-true w 1 (and_parts (w == 1) (has_width m x (sound.width m y)) e).0, pair x y (and_parts (w == 1) (has_width m x (sound.width m y)) e).1)

  shifted : (w x y : ℕ) → (has_width m x w && is_read m y) ≡ true → Has m x w × ((u : ℕ) × Has m y u)
  shifted w x y e = (has_it x w (and_parts (has_width m x w) (is_read m y) e).0, (sound.width m y, read y (and_parts (has_width m x w) (is_read m y) e).1))

  two : (w x y : ℕ) → (has_width m x w && has_width m y w) ≡ true → Has m x w × Has m y w
  two w x y e = (has_it x w (and_parts (has_width m x w) (has_width m y w) e).0, has_it y w (and_parts (has_width m x w) (has_width m y w) e).1)

  binary_fits : (operator : BinaryOperator) (w x y : ℕ) → value_fits m (v.Binary operator x y) w ≡ true → FitsBinary (Has m) operator w x y
  binary_fits Equal w x y e = compared w x y e
  binary_fits Less w x y e = compared w x y e
  binary_fits ShiftLeft w x y e = shifted w x y e
  binary_fits ShiftRight w x y e = shifted w x y e
  binary_fits Add w x y e = two w x y e
  binary_fits Subtract w x y e = two w x y e
  binary_fits Multiply w x y e = two w x y e
  binary_fits And w x y e = two w x y e
  binary_fits Or w x y e = two w x y e
  binary_fits Xor w x y e = two w x y e

  parts_fit : (xs : List ℕ) → all_right (is_read m) xs ≡ true → FitsParts (Has m) xs (joint_width m xs)
  parts_fit [] e = refl
  parts_fit (x ∷ xs) e =
      (sound.width m x, joint_width m xs, read x (and_parts (is_read m x) (all_right (is_read m) xs) e).0, parts_fit xs (and_parts (is_read m x) (all_right (is_read m) xs) e).1, refl)

  joined_fit : (xs : List ℕ) (w : ℕ) → (all_right (is_read m) xs && joint_width m xs == w) ≡ true → FitsParts (Has m) xs w
  joined_fit xs w e =
      subst (FitsParts (Has m) xs) (eqb-true (joint_width m xs) w (and_parts (all_right (is_read m) xs) (joint_width m xs == w) e).1)
      (parts_fit xs (and_parts (all_right (is_read m) xs) (joint_width m xs == w) e).0)

  read_fits : (j x w : ℕ) → j < length m.memories → value_fits m (v.MemoryRead j x) w ≡ true → FitsValue (Has m) (λ i. slice_get m.memories i) w (v.MemoryRead j x)
  read_fits j x w l e =
      let s = get_there m.memories j l in
      let rest = (and_parts (is_read m x) (nat_lt (memory_words m j) (2 ^ sound.width m x) && memory_width m j == w) e).1 in
      let words : memory_words m j ≡ length (s.0).initial = ap (words_of_memory m) s.1 in
      let width : memory_width m j ≡ (s.0).width = ap (width_of_memory m) s.1 in
      let few = ltb-true (memory_words m j) (2 ^ sound.width m x) (and_parts (nat_lt (memory_words m j) (2 ^ sound.width m x)) (memory_width m j == w) rest).0 in
      let wide = eqb-true (memory_width m j) w (and_parts (nat_lt (memory_words m j) (2 ^ sound.width m x)) (memory_width m j == w) rest).1 in
      let there = read x (and_parts (is_read m x) (nat_lt (memory_words m j) (2 ^ sound.width m x) && memory_width m j == w) e).0 in
      (s.0, s.1, sym width ∙ wide, (sound.width m x, there, subst (λ n. n < 2 ^ sound.width m x) words few))

  select_fits : (x high low w : ℕ) → value_fits m (v.Select x high low) w ≡ true → FitsValue (Has m) (λ i. slice_get m.memories i) w (v.Select x high low)
  select_fits x high low w e =
      let a = leb-true low high (and_parts (nat_le low high) (nat_lt high (sound.width m x) && (nat_lt 1 (sound.width m x) && w == high - low + 1)) e).0 in
      let rest = (and_parts (nat_le low high) (nat_lt high (sound.width m x) && (nat_lt 1 (sound.width m x) && w == high - low + 1)) e).1 in
      let b = ltb-true high (sound.width m x) (and_parts (nat_lt high (sound.width m x)) (nat_lt 1 (sound.width m x) && w == high - low + 1) rest).0 in
      let last = (and_parts (nat_lt high (sound.width m x)) (nat_lt 1 (sound.width m x) && w == high - low + 1) rest).1 in
      let c = eqb-true w (high - low + 1) (and_parts (nat_lt 1 (sound.width m x)) (w == high - low + 1) last).1 in
      (a, omega (arith, a, c), (sound.width m x, has_read x (omega (arith, b)), b))

  pub value_right : (w : ℕ) (a : Value) → AreMemories m (memories_read a) → value_fits m a w ≡ true → FitsValue (Has m) (λ i. slice_get m.memories i) w a
  value_right w (v.Copy x) are e = has_it x w e
  value_right w (v.Constant n) are e = ltb-true n (2 ^ w) e
  value_right w (v.BitwiseNot x) are e = has_it x w e
  value_right w (v.Binary operator x y) are e = binary_fits operator w x y e
  value_right w (v.SignedLess x y) are e = compared w x y e
  value_right w (v.ArithmeticShiftRight x y) are e = shifted w x y e
  value_right w (v.Conditional c x y) are e =
      let sides = two w x y (and_parts (has_width m c 1) (has_width m x w && has_width m y w) e).1 in
      (has_it c 1 (and_parts (has_width m c 1) (has_width m x w && has_width m y w) e).0, sides.0, sides.1)
  value_right w (v.Division operator x y) are e = two w x y e
  value_right w (v.SignedDivision operator x y) are e = two w x y e
  value_right w (v.MemoryRead j x) are e = read_fits j x w (are 0 j refl) e
  value_right w (v.Select x high low) are e = select_fits x high low w e
  value_right w (v.Concatenation xs) are e = joined_fit xs w (and_parts (is_filled m xs) (all_right (is_read m) xs && joint_width m xs == w) e).1
  value_right w (v.Replication n x) are e =
      (sound.width m x, read x (and_parts (is_read m x) (n * sound.width m x == w) e).0, eqb-true (n * sound.width m x) w (and_parts (is_read m x) (n * sound.width m x == w) e).1)

  -- ---- statements

  set_by : (from : Source) (w : ℕ) → 0 < width_set m w from → (w ≡ width_set m w from) × IsRegister from
  set_by source.Input w l = absurd (omega arith)
  set_by (source.Register n) w l = (refl, tt)
  set_by (source.Assigned a) w l = absurd (omega arith)
  set_by (source.Port i port) w l = absurd (omega arith)

  register_by : (o : Option Signal) → 0 < width_of_register m o → (s : Signal) × (o ≡ Some s) × (s.width ≡ width_of_register m o) × IsRegister s.source
  register_by None l = absurd (omega arith)
  register_by (Some s) l = let is = set_by s.source s.width l in (s, refl, is.0, is.1)

  register_at : (x : ℕ) → 0 < register_width m x → HasRegister m x (register_width m x)
  register_at x l = let r = register_by (slice_get m.signals x) l in record { signal = r.0; listed = r.1; wide = r.2; is = r.3 }

  argument_right : (a : Argument) → is_read m (argument_place a) ≡ true → FitsArgument m a
  argument_right (Unsigned x) e = (sound.width m x, read x e)
  argument_right (Signed x) e = (sound.width m x, read x e)

  store_right : (j x y : ℕ) → j < length m.memories → (is_read m x && has_width m y (memory_width m j)) ≡ true → FitsEffect m (effect.Store j x y)
  store_right j x y l e =
      let s = get_there m.memories j l in
      let width : memory_width m j ≡ (s.0).width = ap (width_of_memory m) s.1 in (
        s.0,
        s.1,
        subst (Has m y) width (has_it y (memory_width m j) (and_parts (is_read m x) (has_width m y (memory_width m j)) e).1),
        (sound.width m x, read x (and_parts (is_read m x) (has_width m y (memory_width m j)) e).0),
      )

  effect_right : (e : Effect) → AreMemories m (memories_stored e) → effect_fits m e ≡ true → FitsEffect m e
  effect_right (effect.Set x y) are e = (register_width m x, register_at x (wide y (register_width m x) e), has_it y (register_width m x) e)
  effect_right (effect.Store j x y) are e = store_right j x y (are 0 j refl) e
  effect_right (effect.Write text arguments) are e =
      each_right (FitsArgument m) (λ a. is_read m (argument_place a)) argument_right arguments
      (and_parts (has_values (values_in Between text) (length arguments)) (all_right (λ a. is_read m (argument_place a)) arguments) e).1

  pub action_right : (a : Action) → AreMemories m (memories_stored a.effect) → action_fits m a ≡ true → FitsAction m a
  action_right a are e = (
    each_right (λ x. Has m x 1) (λ c. has_width m c 1) (λ c h. has_it c 1 h) a.conditions (and_parts (all_right (λ c. has_width m c 1) a.conditions) (effect_fits m a.effect) e).0,
    effect_right a.effect are (and_parts (all_right (λ c. has_width m c 1) a.conditions) (effect_fits m a.effect) e).1,
  )

  pub memory_right : (c : Memory) → all_right (λ n. nat_lt n (2 ^ c.width)) c.initial ≡ true → FitsMemory c
  memory_right c e = each_right (λ n. n < 2 ^ c.width) (λ n. nat_lt n (2 ^ c.width)) (λ n h. ltb-true n (2 ^ c.width) h) c.initial e
