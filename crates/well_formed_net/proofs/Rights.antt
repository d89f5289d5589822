-- The rules of a right side say that its widths fit, wherever names that may be read have their widths.
use Rattle.std.specs.Prelude.{◌≡◌, ℕ, ◌+◌, ◌-◌, ◌*◌, ◌^◌, ◌<◌, true, false, ◌&&◌, ◌==◌, nat_le, nat_lt, List, [], ◌∷◌, map, length, Option, Some, None, refl}
use Rattle.std.specs.Str.{bytes_eq}
use Rattle.std.proofs.Common.{sym, ◌∙◌, subst, arith}
use Rattle.std.proofs.lemmas.Bool.{leb-true, ltb-true, eqb-true, and_parts}
use Rattle.verilog_tree.specs.declared.tree.Constant.{Constant}
use Rattle.verilog_tree.specs.declared.tree.BinaryOperator.{BinaryOperator}
use Rattle.verilog_tree.specs.declared.tree.BinaryOperator.TheVariants as op
use Rattle.verilog_tree.specs.declared.tree.Expression.{Expression}
use Rattle.verilog_tree.specs.declared.tree.Expression.TheVariants as e
use Rattle.verilog_tree.specs.declared.kind.Kind.{Kind}
use Rattle.verilog_tree.specs.declared.kind.Kind.TheVariants as kind
use Rattle.verilog_tree.specs.Scope.{Name, Scope, kind_of, read_width, ranged_width, memory_width, words_of}
use Rattle.verilog_tree.specs.Rules.{all_right, is_constant, is_zero, width, is_signal, has_width, have_one_width, joint_width, division_right, expression_right}
use Rattle.netlist.specs.declared.netlist.Memory.{Memory}
use Rattle.netlist.specs.NetlistOf.{place, value}
use Rattle.circuit.specs.Modules.{FitsBinary, FitsParts, FitsValue}

-- a name with a range may be read
ranged_by : (o : Option Kind) → 0 < ranged_width o → ranged_width o ≡ read_width o
ranged_by None l = absurd (omega arith)
ranged_by (Some (kind.Signal c width true)) l = refl
ranged_by (Some (kind.Signal c width false)) l = absurd (omega arith)
ranged_by (Some (kind.Memory width last)) l = absurd (omega arith)
ranged_by (Some kind.Instance) l = absurd (omega arith)
ranged_by (Some kind.Clock) l = absurd (omega arith)

ranged : (o : Option Kind) (k : ℕ) → k < ranged_width o → k < read_width o
ranged o k l = let q = ranged_by o (omega (arith, l)) in omega (arith, q, l)

-- a memory of a scope
pub record IsWords (memory : ℕ → Option Memory) (memories : List Name) (scope : Scope) (x : Name) : Type 0 where
  pub words : Memory
  pub listed : memory (place memories x) ≡ Some words
  pub wide : words.width ≡ memory_width (kind_of scope x)
  pub long : length words.initial ≡ words_of (kind_of scope x)

-- P y w: signal y has w bits
module _ (signals memories : List Name) (scope : Scope) (P : ℕ → ℕ → Type 0) (memory : ℕ → Option Memory)
    (at_name : (x : Name) → 0 < width scope x → P (place signals x) (width scope x))
    (at_memory : (x : Name) → 0 < memory_width (kind_of scope x) → IsWords memory memories scope x) where
  abbrev at : Name → ℕ
  at x = place signals x

  one : (x : Name) → is_signal scope x ≡ true → P (at x) (width scope x)
  one x q = at_name x (ltb-true 0 (width scope x) q)

  pub of_width : (x : Name) (w : ℕ) → has_width scope x w ≡ true → P (at x) w
  of_width x w q = subst (P (at x)) (eqb-true (width scope x) w (and_parts (is_signal scope x) (width scope x == w) q).1) (one x (and_parts (is_signal scope x) (width scope x == w) q).0)

  -- the width is not 0
  wide : (x : Name) (w : ℕ) → has_width scope x w ≡ true → 0 < w
  wide x w q =
      let l = ltb-true 0 (width scope x) (and_parts (is_signal scope x) (width scope x == w) q).0 in
      let s = eqb-true (width scope x) w (and_parts (is_signal scope x) (width scope x == w) q).1 in
      omega (arith, l, s)

  pair : (x y : Name) → have_one_width scope x y ≡ true → (u : ℕ) × P (at x) u × P (at y) u
  pair x y q = (width scope y, of_width x (width scope y) q, at_name y (wide x (width scope y) q))

  compared : (w : ℕ) (x y : Name) → (w == 1 && have_one_width scope x y) ≡ true → (w ≡ 1) × ((u : ℕ) × P (at x) u × P (at y) u)
  compared w x y q = (eqb-true w 1 (and_parts (w == 1) (have_one_width scope x y) q).0, pair x y (and_parts (w == 1) (have_one_width scope x y) q).1)

  shifted : (w : ℕ) (x y : Name) → (has_width scope x w && is_signal scope y) ≡ true → P (at x) w × ((u : ℕ) × P (at y) u)
  shifted w x y q = (of_width x w (and_parts (has_width scope x w) (is_signal scope y) q).0, (width scope y, one y (and_parts (has_width scope x w) (is_signal scope y) q).1))

  two : (w : ℕ) (x y : Name) → (has_width scope x w && has_width scope y w) ≡ true → P (at x) w × P (at y) w
  two w x y q = (of_width x w (and_parts (has_width scope x w) (has_width scope y w) q).0, of_width y w (and_parts (has_width scope x w) (has_width scope y w) q).1)

  binary_fits : (operator : BinaryOperator) (w : ℕ) (x y : Name) → expression_right scope (e.Binary operator x y) w ≡ true → FitsBinary P operator w (at x) (at y)
  binary_fits op.Equal w x y q = compared w x y q
  binary_fits op.Less w x y q = compared w x y q
  binary_fits op.ShiftLeft w x y q = shifted w x y q
  binary_fits op.ShiftRight w x y q = shifted w x y q
  binary_fits op.Add w x y q = two w x y q
  binary_fits op.Subtract w x y q = two w x y q
  binary_fits op.Multiply w x y q = two w x y q
  binary_fits op.And w x y q = two w x y q
  binary_fits op.Or w x y q = two w x y q
  binary_fits op.Xor w x y q = two w x y q

  divided : (tested x y : Name) (nought guarded : Constant) (w : ℕ) → division_right scope tested nought guarded x y w ≡ true → P (at x) w × P (at y) w
  divided tested x y nought guarded w q =
      let widths = has_width scope x w && has_width scope y w in
      let guards = is_zero guarded w && widths in
      two w x y (and_parts (is_zero guarded w) widths (and_parts (is_zero nought w) guards (and_parts (bytes_eq tested y) (is_zero nought w && guards) q).1).1).1

  bit_inside : (x : Name) (high : ℕ) → nat_lt high (ranged_width (kind_of scope x)) ≡ true → P (at x) (width scope x) × (high < width scope x)
  bit_inside x high q =
      let l = ranged (kind_of scope x) high (ltb-true high (ranged_width (kind_of scope x)) q) in
      (at_name x (omega (arith, l)), l)

  parts_fit : (xs : List Name) → all_right (is_signal scope) xs ≡ true → FitsParts P (map at xs) (joint_width scope xs)
  parts_fit [] q = refl
  parts_fit (x ∷ xs) q = (
    width scope x,
    joint_width scope xs,
    one x (and_parts (is_signal scope x) (all_right (is_signal scope) xs) q).0,
    parts_fit xs (and_parts (is_signal scope x) (all_right (is_signal scope) xs) q).1,
    refl,
  )

  read_fits : (tested : Name) (bound : Constant) (m x : Name) (guarded : Constant) (w : ℕ) → 0 < w → expression_right scope (e.MemoryRead tested bound m x guarded) w ≡ true
      → FitsValue P memory w (value signals memories (e.MemoryRead tested bound m x guarded))
  read_fits tested bound m x guarded w above q =
      let last = memory_width (kind_of scope m) == w && is_zero guarded w in
      let sized = bound.value == words_of (kind_of scope m) && last in
      let bounded = is_constant bound (width scope x) && sized in
      let a = (and_parts (bytes_eq tested x) (is_signal scope x && bounded) q).1 in
      let address = one x (and_parts (is_signal scope x) bounded a).0 in
      let b = (and_parts (is_signal scope x) bounded a).1 in
      let constant = (and_parts (is_constant bound (width scope x)) sized b).0 in
      let c = (and_parts (is_constant bound (width scope x)) sized b).1 in
      let number = eqb-true bound.value (words_of (kind_of scope m)) (and_parts (bound.value == words_of (kind_of scope m)) last c).0 in
      let d = (and_parts (bound.value == words_of (kind_of scope m)) last c).1 in
      let wide_words = eqb-true (memory_width (kind_of scope m)) w (and_parts (memory_width (kind_of scope m) == w) (is_zero guarded w) d).0 in
      let k = at_memory m (omega (arith, wide_words, above)) in
      let below = ltb-true bound.value (2 ^ width scope x) (and_parts (bound.width == width scope x) (nat_lt bound.value (2 ^ width scope x)) constant).1 in
      (k.words, k.listed, k.wide ∙ wide_words, (width scope x, address, subst (λ n. n < 2 ^ width scope x) (number ∙ sym k.long) below))

  pub fits : (x : Expression) (w : ℕ) → 0 < w → expression_right scope x w ≡ true → FitsValue P memory w (value signals memories x)
  fits (e.Copy x) w l q = of_width x w q
  fits (e.Constant c) w l q = ltb-true c.value (2 ^ w) (and_parts (c.width == w) (nat_lt c.value (2 ^ w)) q).1
  fits (e.BitwiseNot x) w l q = of_width x w q
  fits (e.Binary operator x y) w l q = binary_fits operator w x y q
  fits (e.SignedLess x y) w l q = compared w x y q
  fits (e.ArithmeticShiftRight x y) w l q = shifted w x y q
  fits (e.Conditional c x y) w l q =
      let arms = two w x y (and_parts (has_width scope c 1) (has_width scope x w && has_width scope y w) q).1 in
      (of_width c 1 (and_parts (has_width scope c 1) (has_width scope x w && has_width scope y w) q).0, arms.0, arms.1)
  fits (e.Division tested nought guarded operator x y) w l q = divided tested x y nought guarded w q
  fits (e.SignedDivision tested nought guarded operator x y) w l q = divided tested x y nought guarded w q
  fits (e.MemoryRead tested bound m x guarded) w l q = read_fits tested bound m x guarded w l q
  fits (e.BitSelect x bit) w l q =
      let inside = bit_inside x bit (and_parts (w == 1) (nat_lt bit (ranged_width (kind_of scope x))) q).1 in
      let one_bit = eqb-true w 1 (and_parts (w == 1) (nat_lt bit (ranged_width (kind_of scope x))) q).0 in
      (omega arith, omega (arith, one_bit), (width scope x, inside.0, inside.1))
  fits (e.PartSelect x high low) w l q =
      let inner = nat_lt high (ranged_width (kind_of scope x)) in
      let sized = w == high - low + 1 in
      let order = leb-true low high (and_parts (nat_le low high) (inner && sized) q).0 in
      let rest = (and_parts (nat_le low high) (inner && sized) q).1 in
      let inside = bit_inside x high (and_parts inner sized rest).0 in
      let bits = eqb-true w (high - low + 1) (and_parts inner sized rest).1 in
      (order, omega (arith, order, bits), (width scope x, inside.0, inside.1))
  fits (e.Concatenation xs) w l q =
      subst (FitsParts P (map at xs)) (eqb-true (joint_width scope xs) w (and_parts (all_right (is_signal scope) xs) (joint_width scope xs == w) q).1)
      (parts_fit xs (and_parts (all_right (is_signal scope) xs) (joint_width scope xs == w) q).0)
  fits (e.Replication count x) w l q = (
    width scope x,
    one x (and_parts (is_signal scope x) (count * width scope x == w) q).0,
    eqb-true (count * width scope x) w
        (and_parts (is_signal scope x) (count * width scope x == w) q).1,
  )
