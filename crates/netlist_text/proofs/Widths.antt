-- Widths in a scope that knows the signals and the memories of a module.
use Rattle.std.proofs.Common.{◌≡◌, ℕ, suc, ◌+◌, ◌-◌, ◌*◌, ◌^◌, ◌<◌, ◌≤◌, List, [], ◌∷◌, Bool, true, false, Some, None, refl, sym, ap, ◌∙◌, length, map, arith}
use Rattle.std.specs.Prelude.{slice_get, is_some, option_map, unwrap_or, ◌==◌, ◌&&◌, nat_lt, nat_le, nat_eq, if◌then◌else◌}
use Rattle.std.proofs.lemmas.Bool.{eqb-true, eq-eqb, false_from_ne_true, and_parts}
use Rattle.std.proofs.lemmas.Bool.Decides.{nat_tests}
use Rattle.std.proofs.lemmas.Slice.Eq.{bytes_eq-Decides}
use Rattle.lists.proofs.Places.{get_there}
use Rattle.verilog_tree.specs.declared.kind.SignalClass.{SignalClass}
use Rattle.verilog_tree.specs.declared.kind.SignalClass.TheVariants as class
use Rattle.verilog_tree.specs.declared.kind.Kind.TheVariants as kind
use Rattle.verilog_tree.specs.declared.tree.Expression.TheVariants as e
use Rattle.verilog_tree.specs.declared.tree.BinaryOperator.{BinaryOperator}
use Rattle.verilog_tree.specs.Scope as scope
use Rattle.verilog_tree.specs.Scope.{Scope, is_clk, read_width, ranged_width, driven_width, register_width}
use Rattle.verilog_tree.specs.Rules as rules
use Rattle.verilog_tree.specs.Rules.{is_comparison, is_shift, all_right}
use Rattle.verilog_tree.proofs.Tests.{and_both}
use Rattle.netlist.specs.declared.netlist.Value.{Value}
use Rattle.netlist.specs.declared.netlist.Value.TheVariants as v
use Rattle.netlist.specs.declared.netlist.Source.{Source}
use Rattle.netlist.specs.declared.netlist.Source.TheVariants as source
use Rattle.netlist.specs.declared.netlist.Signal.{Signal}
use Rattle.netlist.specs.declared.netlist.Memory.{Memory}
use Rattle.netlist.specs.declared.netlist.Module.{Module}
use Rattle.netlist.specs.Laid.{kind_by, AreSignals, AreMemories, operands, memories_read}
use Rattle.netlist.specs.Sound as sound
use Rattle.netlist_text.specs.LaidOut as laid
use Rattle.netlist_text.proofs.Values.{signal_name_at, memory_name_at}
use Rattle.netlist_text.proofs.Views.{told_kind_by, told_kind, memory_kind}

-- ---- widths of declarations

high_by : (w : ℕ) → 1 ≤ w → w ≤ 64 → (b : Bool) → nat_lt 1 w ≡ b → scope.width_of (if b then Some (w - 1) else None) ≡ w
high_by w low high true h =
    let e : nat_lt (w - 1) 64 ≡ true = grind (arith, nat_tests) in
    let f : w - 1 + 1 ≡ w = omega arith in ap (λ b. if b then w - 1 + 1 else 0) e ∙ f
high_by w low high false h = let e : w ≤ 1 = grind (arith, nat_tests) in omega arith

pub width_of_high : (w : ℕ) → 1 ≤ w → w ≤ 64 → scope.width_of (laid.high_of w) ≡ w
width_of_high w low high = high_by w low high (nat_lt 1 w) refl

pub memory_width_of : (w : ℕ) → 1 ≤ w → w ≤ 64 → scope.width_of (Some (w - 1)) ≡ w
memory_width_of w low high =
    let e : nat_lt (w - 1) 64 ≡ true = grind (arith, nat_tests) in
    let f : w - 1 + 1 ≡ w = omega arith in ap (λ b. if b then w - 1 + 1 else 0) e ∙ f

ranged_by : (w : ℕ) (b : Bool) → is_some (if b then Some (w - 1) else None) ≡ b
ranged_by w true = refl
ranged_by w false = refl

-- what is known of a signal
pub record IsPlain (s : Signal) : Type 0 where
  pub low : 1 ≤ s.width
  pub high : s.width ≤ 64
  pub clock : is_clk s.name ≡ true → s.source ≡ source.Input

no_clock_by : (s : Signal) → IsPlain s → (from : Source) → s.source ≡ from → (from ≡ source.Input → ⊥) → is_clk s.name ≡ false
no_clock_by s p from e other = false_from_ne_true (is_clk s.name) (λ h. other (sym e ∙ p.clock h))

pub no_clock_register : (s : Signal) (n : ℕ) → IsPlain s → s.source ≡ source.Register n → is_clk s.name ≡ false
no_clock_register s n p e = no_clock_by s p (source.Register n) e (λ h. cc)

pub no_clock_assigned : (s : Signal) (right : Value) → IsPlain s → s.source ≡ source.Assigned right → is_clk s.name ≡ false
no_clock_assigned s right p e = no_clock_by s p (source.Assigned right) e (λ h. cc)

pub no_clock_port : (s : Signal) (j port : ℕ) → IsPlain s → s.source ≡ source.Port j port → is_clk s.name ≡ false
no_clock_port s j port p e = no_clock_by s p (source.Port j port) e (λ h. cc)

-- the width that may be read, by the test of the clock
read_port : (c : SignalClass) (s : Signal) (b : Bool) → IsPlain s → read_width (Some (if b then kind.Clock else scope.signal c (laid.high_of s.width))) ≡ (if b then 0 else s.width)
read_port c s true p = refl
read_port c s false p = width_of_high s.width p.low p.high

read_inner : (s : Signal) → IsPlain s → is_clk s.name ≡ false → scope.width_of (laid.high_of s.width) ≡ (if is_clk s.name then 0 else s.width)
read_inner s p e = width_of_high s.width p.low p.high ∙ sym (ap (λ b. if b then 0 else s.width) e)

read_told : (s : Signal) → IsPlain s → (from : Source) (out : Bool) → s.source ≡ from → read_width (Some (told_kind_by s (kind_by from out))) ≡ (if is_clk s.name then 0 else s.width)
read_told s p source.Input out e = read_port class.Input s (is_clk s.name) p
read_told s p (source.Register n) out e = read_inner s p (no_clock_register s n p e)
read_told s p (source.Assigned right) true e = read_port class.Output s (is_clk s.name) p
read_told s p (source.Assigned right) false e = read_inner s p (no_clock_assigned s right p e)
read_told s p (source.Port j port) true e = read_port class.Output s (is_clk s.name) p
read_told s p (source.Port j port) false e = read_inner s p (no_clock_port s j port p e)

-- of a name with a range
abbrev wide : ℕ → ℕ
wide w = if nat_lt 1 w then w else 0

ranged_high : (s : Signal) → IsPlain s → (if is_some (laid.high_of s.width) then scope.width_of (laid.high_of s.width) else 0) ≡ wide s.width
ranged_high s p =
    ap (λ b. if b then scope.width_of (laid.high_of s.width) else 0) (ranged_by s.width (nat_lt 1 s.width))
    ∙ ap (λ k. if nat_lt 1 s.width then k else 0) (width_of_high s.width p.low p.high)

ranged_port : (c : SignalClass) (s : Signal) (b : Bool) → IsPlain s → ranged_width (Some (if b then kind.Clock else scope.signal c (laid.high_of s.width))) ≡ wide (if b then 0 else s.width)
ranged_port c s true p = refl
ranged_port c s false p = ranged_high s p

ranged_inner : (s : Signal) → IsPlain s → is_clk s.name ≡ false → (if is_some (laid.high_of s.width) then scope.width_of (laid.high_of s.width) else 0) ≡ wide (if is_clk s.name then 0 else s.width)
ranged_inner s p e = ranged_high s p ∙ sym (ap (λ b. wide (if b then 0 else s.width)) e)

ranged_told : (s : Signal) → IsPlain s → (from : Source) (out : Bool) → s.source ≡ from → ranged_width (Some (told_kind_by s (kind_by from out))) ≡ wide (if is_clk s.name then 0 else s.width)
ranged_told s p source.Input out e = ranged_port class.Input s (is_clk s.name) p
ranged_told s p (source.Register n) out e = ranged_inner s p (no_clock_register s n p e)
ranged_told s p (source.Assigned right) true e = ranged_port class.Output s (is_clk s.name) p
ranged_told s p (source.Assigned right) false e = ranged_inner s p (no_clock_assigned s right p e)
ranged_told s p (source.Port j port) true e = ranged_port class.Output s (is_clk s.name) p
ranged_told s p (source.Port j port) false e = ranged_inner s p (no_clock_port s j port p e)

-- of a name that is driven
driven_port : (s : Signal) (b : Bool) → IsPlain s → b ≡ false → driven_width (Some (if b then kind.Clock else scope.signal class.Output (laid.high_of s.width))) ≡ s.width
driven_port s true p e = cc
driven_port s false p e = width_of_high s.width p.low p.high

pub driven_assigned : (s : Signal) (right : Value) → IsPlain s → s.source ≡ source.Assigned right → (out : Bool)
    → driven_width (Some (told_kind_by s (kind_by (source.Assigned right) out))) ≡ s.width
driven_assigned s right p e true = driven_port s (is_clk s.name) p (no_clock_assigned s right p e)
driven_assigned s right p e false = width_of_high s.width p.low p.high

pub driven_by_port : (s : Signal) (j port : ℕ) → IsPlain s → s.source ≡ source.Port j port → (out : Bool) → driven_width (Some (told_kind_by s (kind_by (source.Port j port) out))) ≡ s.width
driven_by_port s j port p e true = driven_port s (is_clk s.name) p (no_clock_port s j port p e)
driven_by_port s j port p e false = width_of_high s.width p.low p.high

-- of a register
clocked_input : (s : Signal) (b : Bool) → register_width (Some (if b then kind.Clock else scope.signal class.Input (laid.high_of s.width))) ≡ 0
clocked_input s true = refl
clocked_input s false = refl

clocked_output : (s : Signal) (b : Bool) → register_width (Some (if b then kind.Clock else scope.signal class.Output (laid.high_of s.width))) ≡ 0
clocked_output s true = refl
clocked_output s false = refl

pub register_told : (m : Module) (s : Signal) → IsPlain s → (from : Source) (out : Bool) → register_width (Some (told_kind_by s (kind_by from out))) ≡ sound.width_set m s.width from
register_told m s p source.Input out = clocked_input s (is_clk s.name)
register_told m s p (source.Register k) out = width_of_high s.width p.low p.high
register_told m s p (source.Assigned right) true = clocked_output s (is_clk s.name)
register_told m s p (source.Assigned right) false = refl
register_told m s p (source.Port j port) true = clocked_output s (is_clk s.name)
register_told m s p (source.Port j port) false = refl

read_width_is : (b : Bool) (w : ℕ) → nat_lt 0 (if b then 0 else w) ≡ true → w ≡ (if b then 0 else w)
read_width_is true w h = cc
read_width_is false w h = refl

-- ---- a scope that knows a module's names

pub record KnowsNames (sc : Scope) (m : Module) : Type 0 where
  pub plain : (x : ℕ) (s : Signal) → slice_get m.signals x ≡ Some s → IsPlain s
  pub signal : (x : ℕ) (s : Signal) → slice_get m.signals x ≡ Some s → scope.kind_of sc s.name ≡ Some (told_kind s)
  pub memory : (j : ℕ) (c : Memory) → slice_get m.memories j ≡ Some c → scope.kind_of sc c.name ≡ Some (memory_kind c)
  pub memory_low : (j : ℕ) (c : Memory) → slice_get m.memories j ≡ Some c → 1 ≤ c.width
  pub memory_high : (j : ℕ) (c : Memory) → slice_get m.memories j ≡ Some c → c.width ≤ 64
  pub memory_words : (j : ℕ) (c : Memory) → slice_get m.memories j ≡ Some c → 1 ≤ length c.initial

module _ (sc : Scope) (m : Module) (knows : KnowsNames sc m) where
  pub width_is : (x : ℕ) → x < length m.signals → rules.width sc (laid.signal_name m x) ≡ sound.width m x
  width_is x lt =
      let t = get_there m.signals x lt in
      ap (rules.width sc) (signal_name_at m x t.0 t.1) ∙ ap read_width (knows.signal x t.0 t.1)
      ∙ read_told t.0 (knows.plain x t.0 t.1) t.0.source t.0.is_output refl ∙ sym (ap (sound.width_read m) t.1)

  ranged_is : (x : ℕ) → x < length m.signals → ranged_width (scope.kind_of sc (laid.signal_name m x)) ≡ wide (sound.width m x)
  ranged_is x lt =
      let t = get_there m.signals x lt in
      ap (λ k. ranged_width (scope.kind_of sc k)) (signal_name_at m x t.0 t.1) ∙ ap ranged_width (knows.signal x t.0 t.1)
      ∙ ranged_told t.0 (knows.plain x t.0 t.1) t.0.source t.0.is_output refl ∙ sym (ap (λ o. wide (sound.width_read m o)) t.1)

  pub has_is : (x w : ℕ) → x < length m.signals → rules.has_width sc (laid.signal_name m x) w ≡ sound.has_width m x w
  has_is x w lt = ap (λ k. nat_lt 0 k && k == w) (width_is x lt)

  pub read_is : (x : ℕ) → x < length m.signals → rules.is_signal sc (laid.signal_name m x) ≡ sound.is_read m x
  read_is x lt = ap (λ k. nat_lt 0 k) (width_is x lt)

  one_is : (x y : ℕ) → x < length m.signals → y < length m.signals → rules.have_one_width sc (laid.signal_name m x) (laid.signal_name m y) ≡ sound.have_one_width m x y
  one_is x y p q = has_is x (rules.width sc (laid.signal_name m y)) p ∙ ap (sound.has_width m x) (width_is y q)

  both_is : (x y w : ℕ) → x < length m.signals → y < length m.signals
      → (rules.has_width sc (laid.signal_name m x) w && rules.has_width sc (laid.signal_name m y) w) ≡ (sound.has_width m x w && sound.has_width m y w)
  both_is x y w p q = ap (λ b. b && rules.has_width sc (laid.signal_name m y) w) (has_is x w p) ∙ ap (λ b. sound.has_width m x w && b) (has_is y w q)

  shift_is : (x y w : ℕ) → x < length m.signals → y < length m.signals
      → (rules.has_width sc (laid.signal_name m x) w && rules.is_signal sc (laid.signal_name m y)) ≡ (sound.has_width m x w && sound.is_read m y)
  shift_is x y w p q = ap (λ b. b && rules.is_signal sc (laid.signal_name m y)) (has_is x w p) ∙ ap (λ b. sound.has_width m x w && b) (read_is y q)

  binary_is : (operator : BinaryOperator) (x y w : ℕ) → x < length m.signals → y < length m.signals
      → rules.binary_right sc operator (laid.signal_name m x) (laid.signal_name m y) w ≡ sound.value_fits m (v.Binary operator x y) w
  binary_is operator x y w p q =
      let c = is_comparison operator in
      let s = is_shift operator in
      let shifted = rules.has_width sc (laid.signal_name m x) w && rules.is_signal sc (laid.signal_name m y) in
      let both = rules.has_width sc (laid.signal_name m x) w && rules.has_width sc (laid.signal_name m y) w in
      ap (λ b. if c then (w == 1 && b) else (if s then shifted else both)) (one_is x y p q)
      ∙ ap (λ b. if c then (w == 1 && sound.have_one_width m x y) else (if s then b else both)) (shift_is x y w p q)
      ∙ ap (λ b. if c then (w == 1 && sound.have_one_width m x y) else (if s then (sound.has_width m x w && sound.is_read m y) else b)) (both_is x y w p q)

  zero_is : (w : ℕ) → rules.is_zero (laid.sized w 0) w ≡ true
  zero_is w = and_both (w == w) (0 == 0) (eq-eqb w w refl) refl

  division_is : (x y w : ℕ) → x < length m.signals → y < length m.signals → (sound.has_width m x w && sound.has_width m y w) ≡ true
      → rules.division_right sc (laid.signal_name m y) (laid.sized w 0) (laid.sized w 0) (laid.signal_name m x) (laid.signal_name m y) w ≡ true
  division_is x y w p q h = and_both _ _ ((bytes_eq-Decides (laid.signal_name m y) (laid.signal_name m y)).1 refl) (and_both _ _ (zero_is w) (and_both _ _ (zero_is w) (both_is x y w p q ∙ h)))

  words_is : (j : ℕ) (c : Memory) → slice_get m.memories j ≡ Some c → scope.words_of (scope.kind_of sc (laid.memory_name m j)) ≡ length c.initial
  words_is j c h =
      let low : 1 ≤ length c.initial = knows.memory_words j c h in
      let e : length c.initial - 1 + 1 ≡ length c.initial = omega arith in
      ap (λ k. scope.words_of (scope.kind_of sc k)) (memory_name_at m j c h) ∙ ap scope.words_of (knows.memory j c h) ∙ e

  pub memory_width_is : (j : ℕ) → j < length m.memories → scope.memory_width (scope.kind_of sc (laid.memory_name m j)) ≡ sound.memory_width m j
  memory_width_is j lt =
      let t = get_there m.memories j lt in
      ap (λ k. scope.memory_width (scope.kind_of sc k)) (memory_name_at m j t.0 t.1) ∙ ap scope.memory_width (knows.memory j t.0 t.1)
      ∙ memory_width_of t.0.width (knows.memory_low j t.0 t.1) (knows.memory_high j t.0 t.1) ∙ sym (ap (sound.width_of_memory m) t.1)

  word_count_is : (j : ℕ) → j < length m.memories → scope.words_of (scope.kind_of sc (laid.memory_name m j)) ≡ laid.words m j
  word_count_is j lt =
      let t = get_there m.memories j lt in
      words_is j t.0 t.1 ∙ sym (ap (λ o. unwrap_or (option_map (λ (c : Memory). length c.initial) o) 0) t.1)

  memory_words_is : (j : ℕ) → j < length m.memories → laid.words m j ≡ sound.memory_words m j
  memory_words_is j lt =
      let t = get_there m.memories j lt in
      ap (λ o. unwrap_or (option_map (λ (c : Memory). length c.initial) o) 0) t.1 ∙ sym (ap (sound.words_of_memory m) t.1)

  address_is : (x : ℕ) → x < length m.signals → sound.is_read m x ≡ true → laid.signal_width m x ≡ sound.width m x
  address_is x lt h =
      let t = get_there m.signals x lt in
      ap (λ o. unwrap_or (option_map (λ (s : Signal). s.width) o) 0) t.1
      ∙ read_width_is (is_clk t.0.name) t.0.width (sym (ap (λ o. nat_lt 0 (sound.width_read m o)) t.1) ∙ h) ∙ sym (ap (sound.width_read m) t.1)

  read_right : (j x w : ℕ) → x < length m.signals → j < length m.memories → sound.value_fits m (v.MemoryRead j x) w ≡ true
      → rules.expression_right sc (laid.expression m w (v.MemoryRead j x)) w ≡ true
  read_right j x w p q h =
      let read : sound.is_read m x ≡ true = (and_parts _ _ h).0 in
      let rest = (and_parts (sound.is_read m x) _ h).1 in
      let fits : nat_lt (sound.memory_words m j) (2 ^ sound.width m x) ≡ true = (and_parts _ _ rest).0 in
      let wide_is : (sound.memory_width m j == w) ≡ true = (and_parts (nat_lt (sound.memory_words m j) (2 ^ sound.width m x)) _ rest).1 in
      let a : laid.signal_width m x ≡ rules.width sc (laid.signal_name m x) = address_is x p read ∙ sym (width_is x p) in
      and_both _ _ ((bytes_eq-Decides (laid.signal_name m x) (laid.signal_name m x)).1 refl) (and_both _ _ (read_is x p ∙ read)
      (and_both _ _ (and_both _ _ (eq-eqb _ _ a) (ap (λ k. nat_lt k (2 ^ rules.width sc (laid.signal_name m x))) (memory_words_is j q)
      ∙ ap (λ k. nat_lt (sound.memory_words m j) (2 ^ k)) (width_is x p) ∙ fits))
      (and_both _ _ (eq-eqb _ _ (sym (word_count_is j q))) (and_both _ _ (ap (λ k. k == w) (memory_width_is j q) ∙ wide_is) (zero_is w)))))

  select_both : (x high low w : ℕ) → nat_le low high ≡ true → nat_lt high (ranged_width (scope.kind_of sc (laid.signal_name m x))) ≡ true → (w == high - low + 1) ≡ true → (b : Bool)
      → nat_eq high low ≡ b → rules.expression_right sc (if b then e.BitSelect (laid.signal_name m x) high else e.PartSelect (laid.signal_name m x) high low) w ≡ true
  select_both x high low w le inside count true e =
      let same : high ≡ low = eqb-true high low e in
      let one : w ≡ high - low + 1 = eqb-true w (high - low + 1) count in
      let is_one : w ≡ 1 = omega arith in
      and_both (w == 1) _ (eq-eqb w 1 is_one) inside
  select_both x high low w le inside count false e = and_both _ _ le (and_both _ _ inside count)

  select_by : (x high low w : ℕ) → x < length m.signals → sound.value_fits m (v.Select x high low) w ≡ true → (b : Bool) → nat_eq high low ≡ b
      → rules.expression_right sc (if b then e.BitSelect (laid.signal_name m x) high else e.PartSelect (laid.signal_name m x) high low) w ≡ true
  select_by x high low w p h b e =
      let le : nat_le low high ≡ true = (and_parts _ _ h).0 in
      let rest = (and_parts (nat_le low high) _ h).1 in
      let within : nat_lt high (sound.width m x) ≡ true = (and_parts _ _ rest).0 in
      let last = (and_parts (nat_lt high (sound.width m x)) _ rest).1 in
      let ranged : nat_lt 1 (sound.width m x) ≡ true = (and_parts _ _ last).0 in
      let count : (w == high - low + 1) ≡ true = (and_parts (nat_lt 1 (sound.width m x)) _ last).1 in
      let inside : nat_lt high (ranged_width (scope.kind_of sc (laid.signal_name m x))) ≡ true =
      ap (nat_lt high) (ranged_is x p ∙ ap (λ b. if b then sound.width m x else 0) ranged) ∙ within in
      select_both x high low w le inside count b e

  all_read : (xs : List ℕ) → AreSignals m xs → all_right (rules.is_signal sc) (map (laid.signal_name m) xs) ≡ all_right (sound.is_read m) xs
  all_read [] h = refl
  all_read (x ∷ xs) h =
      ap (λ b. b && all_right (rules.is_signal sc) (map (laid.signal_name m) xs)) (read_is x (h 0 x refl)) ∙ ap (λ b. sound.is_read m x && b) (all_read xs (λ k y q. h (suc k) y q))

  joint_is : (xs : List ℕ) → AreSignals m xs → rules.joint_width sc (map (laid.signal_name m) xs) ≡ sound.joint_width m xs
  joint_is [] h = refl
  joint_is (x ∷ xs) h =
      ap (λ k. k + rules.joint_width sc (map (laid.signal_name m) xs)) (width_is x (h 0 x refl)) ∙ ap (λ k. sound.width m x + k) (joint_is xs (λ k y q. h (suc k) y q))

  pub expression_fits : (right : Value) (w : ℕ) → AreSignals m (operands right) → AreMemories m (memories_read right) → sound.value_fits m right w ≡ true
      → rules.expression_right sc (laid.expression m w right) w ≡ true
  expression_fits (v.Copy x) w p q h = has_is x w (p 0 x refl) ∙ h
  expression_fits (v.Constant n) w p q h = and_both (w == w) _ (eq-eqb w w refl) h
  expression_fits (v.BitwiseNot x) w p q h = has_is x w (p 0 x refl) ∙ h
  expression_fits (v.Binary operator x y) w p q h = binary_is operator x y w (p 0 x refl) (p 1 y refl) ∙ h
  expression_fits (v.SignedLess x y) w p q h = ap (λ b. w == 1 && b) (one_is x y (p 0 x refl) (p 1 y refl)) ∙ h
  expression_fits (v.ArithmeticShiftRight x y) w p q h = shift_is x y w (p 0 x refl) (p 1 y refl) ∙ h
  expression_fits (v.Conditional c x y) w p q h =
      ap (λ b. b && (rules.has_width sc (laid.signal_name m x) w && rules.has_width sc (laid.signal_name m y) w)) (has_is c 1 (p 0 c refl))
      ∙ ap (λ b. sound.has_width m c 1 && b) (both_is x y w (p 1 x refl) (p 2 y refl)) ∙ h
  expression_fits (v.Division operator x y) w p q h = division_is x y w (p 0 x refl) (p 1 y refl) h
  expression_fits (v.SignedDivision operator x y) w p q h = division_is x y w (p 0 x refl) (p 1 y refl) h
  expression_fits (v.MemoryRead j x) w p q h = read_right j x w (p 0 x refl) (q 0 j refl) h
  expression_fits (v.Select x high low) w p q h = select_by x high low w (p 0 x refl) h (nat_eq high low) refl
  expression_fits (v.Concatenation xs) w p q h =
      ap (λ b. b && rules.joint_width sc (map (laid.signal_name m) xs) == w) (all_read xs p) ∙ ap (λ k. all_right (sound.is_read m) xs && k == w) (joint_is xs p)
      ∙ (and_parts (sound.is_filled m xs) _ h).1
  expression_fits (v.Replication n x) w p q h =
      ap (λ b. b && n * rules.width sc (laid.signal_name m x) == w) (read_is x (p 0 x refl)) ∙ ap (λ k. sound.is_read m x && n * k == w) (width_is x (p 0 x refl)) ∙ h
