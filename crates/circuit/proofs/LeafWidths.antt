-- The widths of a leaf module agree, as a text's have to.
use Rattle.std.proofs.Common.{◌≡◌, ℕ, ◌+◌, ◌-◌, ◌*◌, ◌^◌, ◌<◌, ◌≤◌, Bool, true, false, nat_eq, nat_lt, if◌then◌else◌, List, [], ◌∷◌, length, Some}
use Rattle.std.proofs.Common.{refl, sym, ap, ◌∙◌, arith}
use Rattle.std.specs.Prelude.{slice_get, ◌&&◌, ◌==◌, nat_le}
use Rattle.std.proofs.lemmas.Bool.Decides.{nat_tests}
use Rattle.std.proofs.lemmas.Bool.{and_from, eq-eqb, le-leb, lt-ltb}
use Rattle.verilog_tree.specs.declared.tree.BinaryOperator.{BinaryOperator}
use Rattle.verilog_tree.specs.declared.tree.BinaryOperator.TheVariants.{Add, Subtract, Multiply, And, Or, Xor, Equal, Less, ShiftLeft, ShiftRight}
use Rattle.verilog_tree.specs.Rules.{all_right, Between, values_in, has_values}
use Rattle.netlist.specs.declared.netlist.Value.{Value}
use Rattle.netlist.specs.declared.netlist.Value.TheVariants.{Copy, Constant, BitwiseNot, Binary, SignedLess, ArithmeticShiftRight, Conditional, Division, SignedDivision}
use Rattle.netlist.specs.declared.netlist.Value.TheVariants.{MemoryRead, Select, Concatenation, Replication}
use Rattle.netlist.specs.declared.netlist.Source.{Source}
use Rattle.netlist.specs.declared.netlist.Source.TheVariants.{Input, Register, Assigned, Port}
use Rattle.netlist.specs.declared.netlist.Signal.{Signal}
use Rattle.netlist.specs.declared.netlist.Memory.{Memory}
use Rattle.netlist.specs.declared.netlist.Argument.{Argument}
use Rattle.netlist.specs.declared.netlist.Argument.TheVariants.{Unsigned, Signed}
use Rattle.netlist.specs.declared.netlist.Effect.{Effect}
use Rattle.netlist.specs.declared.netlist.Effect.TheVariants.{Set, Store, Write}
use Rattle.netlist.specs.declared.netlist.Action.{Action}
use Rattle.netlist.specs.declared.netlist.Module.{Module}
use Rattle.netlist.specs.Laid.{operands, argument_place}
use Rattle.netlist.specs.Sound.{width, width_read, width_set, width_of_register, register_width, width_of_memory}
use Rattle.netlist.specs.Sound.{words_of_memory, memory_width, memory_words, is_read, has_width, joint_width, is_filled}
use Rattle.netlist.specs.Sound.{value_fits, source_fits, effect_fits, action_fits}
use Rattle.verilog_meaning.specs.Cycles.{IsRegister}
use Rattle.circuit.specs.Modules.{Has, HasRegister, FitsBinary, FitsParts, FitsValue, FitsArgument, FitsEffect, FitsAction, Reads, IsSoundSource}
use Rattle.circuit.proofs.Tables.{fits_among}
use Rattle.circuit.proofs.Filters.{each_there, all_of}
use Rattle.circuit.proofs.LeafForm.{AreData, HasRange, ReadsData, IsFormed, EffectOnData, ActsOnData}

not_zero : (a : ℕ) → 0 < a → nat_eq a 0 ≡ false
not_zero a l = grind (arith, nat_tests)

-- ---- right sides

module _ (m : Module) (ends : ℕ) (formed : (x : ℕ) (s : Signal) → slice_get m.signals x ≡ Some s → IsFormed m ends x s) where
  at_width : (x w : ℕ) → Has m x w → 0 < x → width m x ≡ w
  at_width x w h l =
      ap (width_read m) h.listed ∙ ap (λ b. if b then 0 else h.signal.width) ((formed x h.signal h.listed).clock ∙ not_zero x l) ∙ h.wide

  wide : (x w : ℕ) → Has m x w → 1 ≤ w
  wide x w h = let a = (formed x h.signal h.listed).low in let b = h.wide in omega arith

  read : (x w : ℕ) → Has m x w → 0 < x → is_read m x ≡ true
  read x w h l = ap (nat_lt 0) (at_width x w h l) ∙ lt-ltb 0 w (wide x w h)

  has_it : (x w : ℕ) → Has m x w → 0 < x → has_width m x w ≡ true
  has_it x w h l = and_from (is_read m x) (width m x == w) (read x w h l) (eq-eqb (width m x) w (at_width x w h l))

  pair : (x y v : ℕ) → Has m x v → Has m y v → AreData m (x ∷ y ∷ []) → has_width m x (width m y) ≡ true
  pair x y v f g d = ap (has_width m x) (at_width y v g d.1.0) ∙ has_it x v f d.0

  compared : (w x y : ℕ) → w ≡ 1 → (v : ℕ) × Has m x v × Has m y v → AreData m (x ∷ y ∷ []) → (w == 1 && has_width m x (width m y)) ≡ true
  compared w x y e f d = and_from (w == 1) (has_width m x (width m y)) (eq-eqb w 1 e) (pair x y f.0 f.1 f.2 d)

  shifted : (w x y : ℕ) → Has m x w → (v : ℕ) × Has m y v → AreData m (x ∷ y ∷ []) → (has_width m x w && is_read m y) ≡ true
  shifted w x y f g d = and_from (has_width m x w) (is_read m y) (has_it x w f d.0) (read y g.0 g.1 d.1.0)

  two : (w x y : ℕ) → Has m x w → Has m y w → AreData m (x ∷ y ∷ []) → (has_width m x w && has_width m y w) ≡ true
  two w x y f g d = and_from (has_width m x w) (has_width m y w) (has_it x w f d.0) (has_it y w g d.1.0)

  binary_right : (operator : BinaryOperator) (w x y : ℕ) → FitsBinary (Has m) operator w x y → AreData m (x ∷ y ∷ []) → value_fits m (Binary operator x y) w ≡ true
  binary_right Equal w x y f d = compared w x y f.0 f.1 d
  binary_right Less w x y f d = compared w x y f.0 f.1 d
  binary_right ShiftLeft w x y f d = shifted w x y f.0 f.1 d
  binary_right ShiftRight w x y f d = shifted w x y f.0 f.1 d
  binary_right Add w x y f d = two w x y f.0 f.1 d
  binary_right Subtract w x y f d = two w x y f.0 f.1 d
  binary_right Multiply w x y f d = two w x y f.0 f.1 d
  binary_right And w x y f d = two w x y f.0 f.1 d
  binary_right Or w x y f d = two w x y f.0 f.1 d
  binary_right Xor w x y f d = two w x y f.0 f.1 d

  parts_read : (xs : List ℕ) (w : ℕ) → FitsParts (Has m) xs w → AreData m xs → all_right (is_read m) xs ≡ true
  parts_read [] w f d = refl
  parts_read (x ∷ xs) w f d = and_from (is_read m x) (all_right (is_read m) xs) (read x f.0 f.2 d.0) (parts_read xs f.1 f.3 d.1)

  parts_wide : (xs : List ℕ) (w : ℕ) → FitsParts (Has m) xs w → AreData m xs → joint_width m xs ≡ w
  parts_wide [] w f d = sym f
  parts_wide (x ∷ xs) w f d = let a = at_width x f.0 f.2 d.0 in let b = parts_wide xs f.1 f.3 d.1 in let e = f.4 in omega arith

  parts_filled : (xs : List ℕ) (w : ℕ) → FitsParts (Has m) xs w → 1 ≤ w → is_filled m xs ≡ true
  parts_filled [] w f l = absurd (omega arith)
  parts_filled (x ∷ xs) w f l = refl

  read_right : (j x w v : ℕ) (c : Memory) → slice_get m.memories j ≡ Some c → c.width ≡ w → Has m x v → length c.initial < 2 ^ v → 0 < x → value_fits m (MemoryRead j x) w ≡ true
  read_right j x w v c e wide h l d =
      let words : memory_words m j ≡ length c.initial = ap (words_of_memory m) e in
      let few : nat_lt (memory_words m j) (2 ^ width m x) ≡ true =
      ap (λ z. nat_lt z (2 ^ width m x)) words ∙ ap (λ z. nat_lt (length c.initial) (2 ^ z)) (at_width x v h d) ∙ lt-ltb (length c.initial) (2 ^ v) l in
      and_from (is_read m x) (nat_lt (memory_words m j) (2 ^ width m x) && memory_width m j == w) (read x v h d)
      (and_from (nat_lt (memory_words m j) (2 ^ width m x)) (memory_width m j == w) few (eq-eqb (memory_width m j) w (ap (width_of_memory m) e ∙ wide)))

  select_right : (x high low w v u : ℕ) → low ≤ high → high + 1 - low ≡ w → Has m x v → high < v → Has m x u → 1 < u → 0 < x → value_fits m (Select x high low) w ≡ true
  select_right x high low w v u a b h l g n d =
      let wv = at_width x v h d in let wu = at_width x u g d in
      and_from (nat_le low high) (nat_lt high (width m x) && (nat_lt 1 (width m x) && w == high - low + 1)) (le-leb low high a)
      (and_from (nat_lt high (width m x)) (nat_lt 1 (width m x) && w == high - low + 1) (lt-ltb high (width m x) (omega arith))
      (and_from (nat_lt 1 (width m x)) (w == high - low + 1) (lt-ltb 1 (width m x) (omega arith)) (eq-eqb w (high - low + 1) (omega arith))))

  value_right : (w : ℕ) (v : Value) → 1 ≤ w → FitsValue (Has m) (λ j. slice_get m.memories j) w v → AreData m (operands v) → HasRange m v → value_fits m v w ≡ true
  value_right w (Copy x) l f d r = has_it x w f d.0
  value_right w (Constant n) l f d r = lt-ltb n (2 ^ w) f
  value_right w (BitwiseNot x) l f d r = has_it x w f d.0
  value_right w (Binary operator x y) l f d r = binary_right operator w x y f d
  value_right w (SignedLess x y) l f d r = compared w x y f.0 f.1 d
  value_right w (ArithmeticShiftRight x y) l f d r = shifted w x y f.0 f.1 d
  value_right w (Conditional c x y) l f d r = and_from (has_width m c 1) (has_width m x w && has_width m y w) (has_it c 1 f.0 d.0) (two w x y f.1 f.2 d.1)
  value_right w (Division operator x y) l f d r = two w x y f.0 f.1 d
  value_right w (SignedDivision operator x y) l f d r = two w x y f.0 f.1 d
  value_right w (MemoryRead j x) l f d r = read_right j x w f.3.0 f.0 f.1 f.2 f.3.1 f.3.2 d.0
  value_right w (Select x high low) l f d r = select_right x high low w f.2.0 r.0 f.0 f.1 f.2.1 f.2.2 r.1 r.2 d.0
  value_right w (Concatenation xs) l f d r =
      and_from (is_filled m xs) (all_right (is_read m) xs && joint_width m xs == w) (parts_filled xs w f l)
      (and_from (all_right (is_read m) xs) (joint_width m xs == w) (parts_read xs w f d) (eq-eqb (joint_width m xs) w (parts_wide xs w f d)))
  value_right w (Replication n x) l f d r =
      and_from (is_read m x) (n * width m x == w) (read x f.0 f.1 d.0) (eq-eqb (n * width m x) w (ap (λ z. n * z) (at_width x f.0 f.1 d.0) ∙ f.2))

  pub source_right : (inputs : ℕ) (late : ℕ → Bool) (x w : ℕ) (source : Source) → 1 ≤ w → IsSoundSource m inputs late x w source → ReadsData m source → source_fits m source w ≡ true
  source_right inputs late x w Input l f d = refl
  source_right inputs late x w (Register n) l f d = lt-ltb n (2 ^ w) f
  source_right inputs late x w (Assigned v) l f d =
      value_right w v l (fits_among (Reads m late x) (Has m) (λ j. slice_get m.memories j) w v (λ y u i h. h.has) f) d.0 d.1
  source_right inputs late x w (Port i p) l f d = refl

  -- ---- statements

  set_width : (w : ℕ) (source : Source) → IsRegister source → width_set m w source ≡ w
  set_width w Input r = absurd r
  set_width w (Register n) r = refl
  set_width w (Assigned v) r = absurd r
  set_width w (Port i p) r = absurd r

  register_wide : (x w : ℕ) → HasRegister m x w → register_width m x ≡ w
  register_wide x w h = ap (width_of_register m) h.listed ∙ set_width h.signal.width h.signal.source h.is ∙ h.wide

  argument_read : (a : Argument) → FitsArgument m a → 0 < argument_place a → is_read m (argument_place a) ≡ true
  argument_read (Unsigned x) f d = read x f.0 f.1 d
  argument_read (Signed x) f d = read x f.0 f.1 d

  effect_right : (effect : Effect) → FitsEffect m effect → EffectOnData m effect → effect_fits m effect ≡ true
  effect_right (Set x y) f d = ap (has_width m y) (register_wide x f.0 f.1) ∙ has_it y f.0 f.2 d
  effect_right (Store j x y) f d =
      and_from (is_read m x) (has_width m y (memory_width m j)) (read x f.3.0 f.3.1 d.0) (ap (λ o. has_width m y (width_of_memory m o)) f.1 ∙ has_it y f.0.width f.2 d.1)
  effect_right (Write text arguments) f d =
      and_from (has_values (values_in Between text) (length arguments)) (all_right (λ a. is_read m (argument_place a)) arguments) d.1
      (all_of (λ a. is_read m (argument_place a)) arguments (λ k a e. argument_read a (each_there (FitsArgument m) arguments f k a e) (each_there (λ b. 0 < argument_place b) arguments d.0 k a e)))

  pub action_right : (a : Action) → FitsAction m a → ActsOnData m a → action_fits m a ≡ true
  action_right a f d =
      and_from (all_right (λ c. has_width m c 1) a.conditions) (effect_fits m a.effect)
      (all_of (λ c. has_width m c 1) a.conditions (λ k c e. has_it c 1 (each_there (λ z. Has m z 1) a.conditions f.0 k c e) (each_there (λ z. 0 < z) a.conditions d.0 k c e)))
      (effect_right a.effect f.1 d.1)
