-- Right sides that fit: their operands are signals, and their widths are those that a text asks for.
use Rattle.std.proofs.Common.{◌≡◌, ℕ, zero, suc, ◌+◌, ◌-◌, ◌*◌, ◌<◌, ◌≤◌, ◌^◌, true, ◌&&◌, ◌==◌, nat_lt, nat_le, List, [], ◌∷◌, length, slice_get, Option, Some}
use Rattle.std.proofs.Common.{refl, sym, ap, subst, ◌∙◌, arith}
use Rattle.std.proofs.lemmas.Bool.Decides.{nat_tests}
use Rattle.std.proofs.lemmas.Option.{slice_get_within}
use Rattle.std.proofs.lemmas.Bool.{and_from, eq-eqb, lt-ltb}
use Rattle.verilog_tree.specs.declared.tree.BinaryOperator.{BinaryOperator}
use Rattle.verilog_tree.specs.declared.tree.BinaryOperator.TheVariants.{Add, Subtract, Multiply, And, Or, Xor, Equal, Less, ShiftLeft, ShiftRight}
use Rattle.verilog_tree.specs.Rules.{all_right}
use Rattle.netlist.specs.declared.netlist.Value.{Value}
use Rattle.netlist.specs.declared.netlist.Value.TheVariants.{Copy, Constant, BitwiseNot, Binary, SignedLess, ArithmeticShiftRight, Conditional, Division, SignedDivision, MemoryRead, Select}
use Rattle.netlist.specs.declared.netlist.Value.TheVariants.{Concatenation, Replication}
use Rattle.netlist.specs.declared.netlist.Signal.{Signal}
use Rattle.netlist.specs.declared.netlist.Memory.{Memory}
use Rattle.netlist.specs.declared.netlist.Module.{Module}
use Rattle.netlist.specs.Laid.{operands, memories_read, AreSignals, AreMemories}
use Rattle.netlist.specs.Sound.{width, is_read, has_width, have_one_width, joint_width, is_filled, value_fits}
use Rattle.netlist.specs.Sound.{words_of_memory, memory_words, width_of_memory, memory_width}
use Rattle.leaf_machine.specs.Modules.{Has, FitsParts, FitsValue}
use Rattle.module_sound.specs.Kinds.{HasRange}

-- the memory of a number
abbrev pub memory_at : Module → ℕ → Option Memory
memory_at m = λ j. slice_get m.memories j

module _ (m : Module) (P : ℕ → ℕ → Type 0) (reads : (y w : ℕ) → P y w → (width m y ≡ w) × (0 < w) × (y < length m.signals) × Has m y w) where
  read : (y w : ℕ) → P y w → is_read m y ≡ true
  read y w p = let r = reads y w p in let positive : 0 < width m y = subst (λ (n : ℕ). 0 < n) (sym r.0) r.1 in grind (arith, nat_tests)

  has : (y w : ℕ) → P y w → has_width m y w ≡ true
  has y w p = and_from (is_read m y) (width m y == w) (read y w p) (eq-eqb (width m y) w (reads y w p).0)

  alike : (x y v : ℕ) → P x v → P y v → have_one_width m x y ≡ true
  alike x y v p q = let e = (reads y v q).0 in subst (λ (n : ℕ). has_width m x n ≡ true) (sym e) (has x v p)

  -- ---- operands are signals

  one_signal : (x : ℕ) → x < length m.signals → AreSignals m (x ∷ [])
  one_signal x less zero y e = let same : x ≡ y = cc in subst (λ (n : ℕ). n < length m.signals) same less
  one_signal x less (suc k) y e = absurd cc

  more_signals : (x : ℕ) (xs : List ℕ) → x < length m.signals → AreSignals m xs → AreSignals m (x ∷ xs)
  more_signals x xs less each zero y e = let same : x ≡ y = cc in subst (λ (n : ℕ). n < length m.signals) same less
  more_signals x xs less each (suc k) y e = each k y e

  no_signals : AreSignals m []
  no_signals k y e = absurd cc

  two_signals : (x y : ℕ) → x < length m.signals → y < length m.signals → AreSignals m (x ∷ y ∷ [])
  two_signals x y a b = more_signals x (y ∷ []) a (one_signal y b)

  part_signals : (xs : List ℕ) (w : ℕ) → FitsParts P xs w → AreSignals m xs
  part_signals [] w f = no_signals
  part_signals (x ∷ xs) w f = more_signals x xs (reads x f.0 f.2).2 (part_signals xs f.1 f.3)

  binary_signals : (o : BinaryOperator) (w x y : ℕ) → FitsValue P (memory_at m) w (Binary o x y) → AreSignals m (x ∷ y ∷ [])
  binary_signals Equal w x y f = two_signals x y (reads x f.1.0 f.1.1).2 (reads y f.1.0 f.1.2).2
  binary_signals Less w x y f = two_signals x y (reads x f.1.0 f.1.1).2 (reads y f.1.0 f.1.2).2
  binary_signals ShiftLeft w x y f = two_signals x y (reads x w f.0).2 (reads y f.1.0 f.1.1).2
  binary_signals ShiftRight w x y f = two_signals x y (reads x w f.0).2 (reads y f.1.0 f.1.1).2
  binary_signals Add w x y f = two_signals x y (reads x w f.0).2 (reads y w f.1).2
  binary_signals Subtract w x y f = two_signals x y (reads x w f.0).2 (reads y w f.1).2
  binary_signals Multiply w x y f = two_signals x y (reads x w f.0).2 (reads y w f.1).2
  binary_signals And w x y f = two_signals x y (reads x w f.0).2 (reads y w f.1).2
  binary_signals Or w x y f = two_signals x y (reads x w f.0).2 (reads y w f.1).2
  binary_signals Xor w x y f = two_signals x y (reads x w f.0).2 (reads y w f.1).2

  pub value_signals : (w : ℕ) (v : Value) → FitsValue P (memory_at m) w v → AreSignals m (operands v)
  value_signals w (Copy x) f = one_signal x (reads x w f).2
  value_signals w (Constant n) f = no_signals
  value_signals w (BitwiseNot x) f = one_signal x (reads x w f).2
  value_signals w (Binary o x y) f = binary_signals o w x y f
  value_signals w (SignedLess x y) f = two_signals x y (reads x f.1.0 f.1.1).2 (reads y f.1.0 f.1.2).2
  value_signals w (ArithmeticShiftRight x y) f = two_signals x y (reads x w f.0).2 (reads y f.1.0 f.1.1).2
  value_signals w (Conditional c x y) f = more_signals c (x ∷ y ∷ []) (reads c 1 f.0).2 (two_signals x y (reads x w f.1).2 (reads y w f.2).2)
  value_signals w (Division o x y) f = two_signals x y (reads x w f.0).2 (reads y w f.1).2
  value_signals w (SignedDivision o x y) f = two_signals x y (reads x w f.0).2 (reads y w f.1).2
  value_signals w (MemoryRead j x) f = one_signal x (reads x f.3.0 f.3.1).2
  value_signals w (Select x high low) f = one_signal x (reads x f.2.0 f.2.1).2
  value_signals w (Concatenation xs) f = part_signals xs w f
  value_signals w (Replication n x) f = one_signal x (reads x f.0 f.1).2

  one_memory : (i : ℕ) → i < length m.memories → AreMemories m (i ∷ [])
  one_memory i less zero j e = let same : i ≡ j = cc in subst (λ (n : ℕ). n < length m.memories) same less
  one_memory i less (suc k) j e = absurd cc

  pub value_memories : (w : ℕ) (v : Value) → FitsValue P (memory_at m) w v → AreMemories m (memories_read v)
  value_memories w (Copy x) f k j e = absurd cc
  value_memories w (Constant n) f k j e = absurd cc
  value_memories w (BitwiseNot x) f k j e = absurd cc
  value_memories w (Binary o x y) f k j e = absurd cc
  value_memories w (SignedLess x y) f k j e = absurd cc
  value_memories w (ArithmeticShiftRight x y) f k j e = absurd cc
  value_memories w (Conditional c x y) f k j e = absurd cc
  value_memories w (Division o x y) f k j e = absurd cc
  value_memories w (SignedDivision o x y) f k j e = absurd cc
  value_memories w (MemoryRead i x) f k j e = one_memory i (slice_get_within m.memories i f.0 f.1) k j e
  value_memories w (Select x high low) f k j e = absurd cc
  value_memories w (Concatenation xs) f k j e = absurd cc
  value_memories w (Replication n x) f k j e = absurd cc

  -- ---- widths fit

  parts_read : (xs : List ℕ) (w : ℕ) → FitsParts P xs w → all_right (is_read m) xs ≡ true
  parts_read [] w f = refl
  parts_read (x ∷ xs) w f = and_from (is_read m x) (all_right (is_read m) xs) (read x f.0 f.2) (parts_read xs f.1 f.3)

  parts_wide : (xs : List ℕ) (w : ℕ) → FitsParts P xs w → joint_width m xs ≡ w
  parts_wide [] w f = sym f
  parts_wide (x ∷ xs) w f = ap (λ n. n + joint_width m xs) (reads x f.0 f.2).0 ∙ ap (λ n. f.0 + n) (parts_wide xs f.1 f.3) ∙ sym f.4

  filled : (xs : List ℕ) (w : ℕ) → 0 < w → FitsParts P xs w → is_filled m xs ≡ true
  filled [] w some f = absurd (let none : w ≡ 0 = f in omega arith)
  filled (x ∷ xs) w some f = refl

  binary_fits : (o : BinaryOperator) (w x y : ℕ) → FitsValue P (memory_at m) w (Binary o x y) → value_fits m (Binary o x y) w ≡ true
  binary_fits Equal w x y f = and_from (w == 1) (have_one_width m x y) (eq-eqb w 1 f.0) (alike x y f.1.0 f.1.1 f.1.2)
  binary_fits Less w x y f = and_from (w == 1) (have_one_width m x y) (eq-eqb w 1 f.0) (alike x y f.1.0 f.1.1 f.1.2)
  binary_fits ShiftLeft w x y f = and_from (has_width m x w) (is_read m y) (has x w f.0) (read y f.1.0 f.1.1)
  binary_fits ShiftRight w x y f = and_from (has_width m x w) (is_read m y) (has x w f.0) (read y f.1.0 f.1.1)
  binary_fits Add w x y f = and_from (has_width m x w) (has_width m y w) (has x w f.0) (has y w f.1)
  binary_fits Subtract w x y f = and_from (has_width m x w) (has_width m y w) (has x w f.0) (has y w f.1)
  binary_fits Multiply w x y f = and_from (has_width m x w) (has_width m y w) (has x w f.0) (has y w f.1)
  binary_fits And w x y f = and_from (has_width m x w) (has_width m y w) (has x w f.0) (has y w f.1)
  binary_fits Or w x y f = and_from (has_width m x w) (has_width m y w) (has x w f.0) (has y w f.1)
  binary_fits Xor w x y f = and_from (has_width m x w) (has_width m y w) (has x w f.0) (has y w f.1)

  select_fits : (w x high low own : ℕ) → low ≤ high → high + 1 - low ≡ w → P x own → high < own → 1 < own → value_fits m (Select x high low) w ≡ true
  select_fits w x high low own order count p within wide =
      let e : width m x ≡ own = (reads x own p).0 in
      let a : nat_le low high ≡ true = grind (arith, nat_tests) in
      let b : nat_lt high (width m x) ≡ true = subst (λ (n : ℕ). nat_lt high n ≡ true) (sym e) (lt-ltb high own within) in
      let c : nat_lt 1 (width m x) ≡ true = subst (λ (n : ℕ). nat_lt 1 n ≡ true) (sym e) (lt-ltb 1 own wide) in
      let d : w ≡ high - low + 1 = omega arith in
      and_from (nat_le low high) (nat_lt high (width m x) && (nat_lt 1 (width m x) && w == high - low + 1)) a
      (and_from (nat_lt high (width m x)) (nat_lt 1 (width m x) && w == high - low + 1) b (and_from (nat_lt 1 (width m x)) (w == high - low + 1) c (eq-eqb w (high - low + 1) d)))

  one_width : (x v w : ℕ) → Has m x v → Has m x w → v ≡ w
  one_width x v w a b = let same : a.signal ≡ b.signal = (let e = a.listed in let f = b.listed in cc) in sym a.wide ∙ ap (λ (s : Signal). s.width) same ∙ b.wide

  read_fits : (j x w own : ℕ) (s : Memory) → slice_get m.memories j ≡ Some s → s.width ≡ w → P x own → length s.initial < 2 ^ own → value_fits m (MemoryRead j x) w ≡ true
  read_fits j x w own s listed wide p less =
      let words : memory_words m j ≡ length s.initial = ap (words_of_memory m) listed in
      let e : width m x ≡ own = (reads x own p).0 in
      let b : nat_lt (memory_words m j) (2 ^ width m x) ≡ true =
      subst (λ (n : ℕ). nat_lt n (2 ^ width m x) ≡ true) (sym words) (subst (λ (n : ℕ). nat_lt (length s.initial) (2 ^ n) ≡ true) (sym e) (lt-ltb (length s.initial) (2 ^ own) less)) in
      and_from (is_read m x) (nat_lt (memory_words m j) (2 ^ width m x) && memory_width m j == w) (read x own p)
      (and_from (nat_lt (memory_words m j) (2 ^ width m x)) (memory_width m j == w) b (eq-eqb (memory_width m j) w (ap (width_of_memory m) listed ∙ wide)))

  pub value_right : (w : ℕ) (v : Value) → 0 < w → HasRange m v → FitsValue P (memory_at m) w v → value_fits m v w ≡ true
  value_right w (Copy x) some range f = has x w f
  value_right w (Constant n) some range f = lt-ltb n (2 ^ w) f
  value_right w (BitwiseNot x) some range f = has x w f
  value_right w (Binary o x y) some range f = binary_fits o w x y f
  value_right w (SignedLess x y) some range f = and_from (w == 1) (have_one_width m x y) (eq-eqb w 1 f.0) (alike x y f.1.0 f.1.1 f.1.2)
  value_right w (ArithmeticShiftRight x y) some range f = and_from (has_width m x w) (is_read m y) (has x w f.0) (read y f.1.0 f.1.1)
  value_right w (Conditional c x y) some range f =
      and_from (has_width m c 1) (has_width m x w && has_width m y w) (has c 1 f.0) (and_from (has_width m x w) (has_width m y w) (has x w f.1) (has y w f.2))
  value_right w (Division o x y) some range f = and_from (has_width m x w) (has_width m y w) (has x w f.0) (has y w f.1)
  value_right w (SignedDivision o x y) some range f = and_from (has_width m x w) (has_width m y w) (has x w f.0) (has y w f.1)
  value_right w (MemoryRead j x) some range f = read_fits j x w f.3.0 f.0 f.1 f.2 f.3.1 f.3.2
  value_right w (Select x high low) some range f =
      select_fits w x high low f.2.0 f.0 f.1 f.2.1 f.2.2 (subst (λ (n : ℕ). 1 < n) (one_width x range.0 f.2.0 range.1 (reads x f.2.0 f.2.1).3) range.2)
  value_right w (Concatenation xs) some range f =
      and_from (is_filled m xs) (all_right (is_read m) xs && joint_width m xs == w) (filled xs w some f)
      (and_from (all_right (is_read m) xs) (joint_width m xs == w) (parts_read xs w f) (eq-eqb (joint_width m xs) w (parts_wide xs w f)))
  value_right w (Replication n x) some range f =
      and_from (is_read m x) (n * width m x == w) (read x f.0 f.1) (eq-eqb (n * width m x) w (ap (λ k. n * k) (reads x f.0 f.1).0 ∙ f.2))
