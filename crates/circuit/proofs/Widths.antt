-- A right side whose widths fit gives a number that fits.
use Rattle.std.proofs.Common.{◌≡◌, ℕ, zero, suc, ◌+◌, ◌-◌, ◌*◌, ◌/◌, ◌%◌, ◌^◌, ◌<◌, ◌≤◌, Bool, true, false, List, [], ◌∷◌, length, Some, slice_get, nat_eq, nat_lt}
use Rattle.std.proofs.Common.{if◌then◌else◌, ℤ, pos, negsuc, int_lt, int_rem, refl, sym, ap, subst, arith, lit<, zero-mul, zero-add}
use Rattle.std.specs.Prelude.{int_div, ◌-ℤ◌}
use Rattle.std.proofs.lemmas.Bool.Decides.{nat_tests}
use Rattle.std.proofs.lemmas.Nat.{pow_pos, mod_below, and_le_l, or_lt, xor_lt, pow-add}
use Rattle.std.proofs.Math.Nat.{div-le_self, mod-le, mul-le-mul_right, suc-mul, lt_of_le_of_lt}
use Rattle.verilog_meaning.specs.Residues.{bit_of, residue_of, floor_quotient}
use Rattle.verilog_meaning.specs.Words.{word, signed_word}
use Rattle.verilog_tree.specs.declared.tree.BinaryOperator.{BinaryOperator}
use Rattle.verilog_tree.specs.declared.tree.BinaryOperator.TheVariants.{Add, Subtract, Multiply, And, Or, Xor, Equal, Less, ShiftLeft, ShiftRight}
use Rattle.verilog_tree.specs.declared.tree.DivisionOperator.{DivisionOperator}
use Rattle.verilog_tree.specs.declared.tree.DivisionOperator.TheVariants.{Quotient, Remainder}
use Rattle.netlist.specs.declared.netlist.Value.{Value}
use Rattle.netlist.specs.declared.netlist.Value.TheVariants.{Copy, Constant, BitwiseNot, Binary, SignedLess, ArithmeticShiftRight, Conditional, Division, SignedDivision}
use Rattle.netlist.specs.declared.netlist.Value.TheVariants.{MemoryRead, Select, Concatenation, Replication}
use Rattle.netlist.specs.declared.netlist.Memory.{Memory}
use Rattle.netlist.specs.declared.netlist.Module.{Module}
use Rattle.verilog_meaning.specs.Readings.{Reading, value, width, binary, divided, signed_divided, joined, repeated, memory_words}
use Rattle.circuit.specs.Modules.{Has, FitsValue, FitsBinary, FitsParts}
use Rattle.circuit.proofs.Tables.{width_is}

word_below : (w a : ℕ) → word w a < 2 ^ w
word_below w a = mod_below a (2 ^ w) (pow_pos w)

complement_below : (p a : ℕ) → 0 < p → p - 1 - a < p
complement_below p a l = omega arith

residue_below : (w : ℕ) (z : ℤ) → residue_of w z < 2 ^ w
unfolding residue_of
residue_below w (pos n) = mod_below n (2 ^ w) (pow_pos w)
residue_below w (negsuc n) = complement_below (2 ^ w) (n % 2 ^ w) (pow_pos w)

bit_below : (b : Bool) (w : ℕ) → w ≡ 1 → bit_of b < 2 ^ w
bit_below true w e = subst (λ v. 1 < 2 ^ v) (sym e) (lit< tt)
bit_below false w e = subst (λ v. 0 < 2 ^ v) (sym e) (lit< tt)

or_zero_below : (b : Bool) (w a : ℕ) → a < 2 ^ w → (if b then a else 0) < 2 ^ w
or_zero_below true w a l = l
or_zero_below false w a l = pow_pos w

zero_or_below : (b : Bool) (w a : ℕ) → a < 2 ^ w → (if b then 0 else a) < 2 ^ w
zero_or_below true w a l = pow_pos w
zero_or_below false w a l = l

either_below : (b : Bool) (w x y : ℕ) → x < 2 ^ w → y < 2 ^ w → (if b then x else y) < 2 ^ w
either_below true w x y a c = a
either_below false w x y a c = c

read_below : (b : Bool) (w x : ℕ) → (b ≡ true → x < 2 ^ w) → (if b then x else 0) < 2 ^ w
read_below true w x h = h refl
read_below false w x h = pow_pos w

-- numbers side by side: one above 2 ^ u and one of v bits
beside : (above a u v : ℕ) → above < 2 ^ u → a < 2 ^ v → above * 2 ^ v + a < 2 ^ (u + v)
beside above a u v l b =
    let m : suc above * 2 ^ v ≤ 2 ^ u * 2 ^ v = mul-le-mul_right (2 ^ v) (let s : suc above ≤ 2 ^ u = omega arith in s) in
    let e : suc above * 2 ^ v ≡ above * 2 ^ v + 2 ^ v = suc-mul above (2 ^ v) in
    let p = pow-add 2 u v in
    omega arith

module _ (m : Module) (r : Reading) where
  -- operand y has width w, and its number fits
  pub record Fitting (y w : ℕ) : Type 0 where
    pub has : Has m y w
    pub below : r.signal y < 2 ^ w

  along : (y w n : ℕ) → Has m y w → n < 2 ^ width m y → n < 2 ^ w
  along y w n h l = subst (λ v. n < 2 ^ v) (width_is m y w h) l

  binary_below : (operator : BinaryOperator) (w x y : ℕ) → FitsBinary Fitting operator w x y → binary operator (width m x) (r.signal x) (r.signal y) < 2 ^ w
  binary_below Add w x y f = along x w _ f.0.has (word_below (width m x) (r.signal x + r.signal y))
  binary_below Subtract w x y f = along x w _ f.0.has (residue_below (width m x) (pos (r.signal x) -ℤ pos (r.signal y)))
  binary_below Multiply w x y f = along x w _ f.0.has (word_below (width m x) (r.signal x * r.signal y))
  binary_below And w x y f = along x w _ f.0.has (lt_of_le_of_lt (and_le_l (word (width m x) (r.signal x)) (word (width m x) (r.signal y))) (word_below (width m x) (r.signal x)))
  binary_below Or w x y f = along x w _ f.0.has (or_lt (width m x) (word (width m x) (r.signal x)) (word (width m x) (r.signal y)) (word_below (width m x) (r.signal x)) (word_below
      (width m x) (r.signal y)))
  binary_below Xor w x y f = along x w _ f.0.has (xor_lt (width m x) (word (width m x) (r.signal x)) (word (width m x) (r.signal y)) (word_below (width m x) (r.signal x))
      (word_below (width m x) (r.signal y)))
  binary_below Equal w x y f = bit_below (nat_eq (word (width m x) (r.signal x)) (word (width m x) (r.signal y))) w f.0
  binary_below Less w x y f = bit_below (nat_lt (word (width m x) (r.signal x)) (word (width m x) (r.signal y))) w f.0
  binary_below ShiftLeft w x y f = along x w _ f.0.has (or_zero_below (nat_lt (r.signal y) (width m x)) (width m x) (word (width m x) (r.signal x * 2 ^ r.signal y)) (word_below
      (width m x) (r.signal x * 2 ^ r.signal y)))
  binary_below ShiftRight w x y f =
      along x w _ f.0.has (or_zero_below (nat_lt (r.signal y) (width m x)) (width m x) (word (width m x) (r.signal x) / 2 ^ r.signal y)
      (lt_of_le_of_lt (div-le_self (word (width m x) (r.signal x)) (2 ^ r.signal y)) (word_below (width m x) (r.signal x))))

  divided_below : (operator : DivisionOperator) (w a b : ℕ) → divided operator w a b < 2 ^ w
  divided_below Quotient w a b = zero_or_below (nat_eq (word w b) 0) w (word w a / word w b) (lt_of_le_of_lt (div-le_self (word w a) (word w b)) (word_below w a))
  divided_below Remainder w a b = zero_or_below (nat_eq (word w b) 0) w (word w a % word w b) (lt_of_le_of_lt (mod-le (word w a) (word w b)) (word_below w a))

  signed_divided_below : (operator : DivisionOperator) (w a b : ℕ) → signed_divided operator w a b < 2 ^ w
  signed_divided_below Quotient w a b = zero_or_below (nat_eq (word w b) 0) w (residue_of w (int_div (signed_word w a) (signed_word w b))) (residue_below w (int_div
      (signed_word w a) (signed_word w b)))
  signed_divided_below Remainder w a b = zero_or_below (nat_eq (word w b) 0) w (residue_of w (int_rem (signed_word w a) (signed_word w b))) (residue_below w (int_rem
      (signed_word w a) (signed_word w b)))

  joined_below : (xs : List ℕ) (w u above : ℕ) → FitsParts Fitting xs w → above < 2 ^ u → joined m r xs above < 2 ^ (u + w)
  joined_below [] w u above f l = let z : u ≡ u + w = let e = f in omega arith in subst (λ v. above < 2 ^ v) z l
  joined_below (x ∷ xs) w u above f l =
      let v = f.0 in let rest = f.1 in
      let wide = width_is m x v f.2.has in
      let z : u + v + rest ≡ u + w = let e = f.4 in omega arith in
      subst (λ k. joined m r (x ∷ xs) above < 2 ^ k) z
      (subst (λ k. joined m r xs (above * 2 ^ k + r.signal x) < 2 ^ (u + v + rest)) (sym wide)
      (joined_below xs rest (u + v) (above * 2 ^ v + r.signal x) f.3 (beside above (r.signal x) u v l f.2.below)))

  repeated_below : (n w a : ℕ) → a < 2 ^ w → repeated n w a < 2 ^ (n * w)
  repeated_below zero w a l = subst (λ k. 0 < 2 ^ k) (sym (zero-mul w)) (lit< tt)
  repeated_below (suc n) w a l =
      subst (λ k. repeated n w a * 2 ^ w + a < 2 ^ k) (sym (suc-mul n w)) (beside (repeated n w a) a (n * w) w (repeated_below n w a l) l)

  pub value_below : ((j k : ℕ) (s : Memory) → slice_get m.memories j ≡ Some s → k < length s.initial → r.word j k < 2 ^ s.width) → (w : ℕ) (v : Value)
      → FitsValue Fitting (λ j. slice_get m.memories j) w v → value m r v < 2 ^ w
  value_below words w (Copy x) f = f.below
  value_below words w (Constant n) f = f
  value_below words w (BitwiseNot x) f = along x w _ f.has (complement_below (2 ^ width m x) (word (width m x) (r.signal x)) (pow_pos (width m x)))
  value_below words w (Binary operator x y) f = binary_below operator w x y f
  value_below words w (SignedLess x y) f = bit_below (int_lt (signed_word (width m x) (r.signal x)) (signed_word (width m x) (r.signal y))) w f.0
  value_below words w (ArithmeticShiftRight x y) f = along x w _ f.0.has (residue_below (width m x) (floor_quotient (signed_word (width m x) (r.signal x)) (2 ^ (if nat_lt
      (r.signal y) (width m x) then r.signal y else width m x))))
  value_below words w (Conditional c x y) f = either_below (nat_eq (r.signal c) 0) w (r.signal y) (r.signal x) f.2.below f.1.below
  value_below words w (Division operator x y) f = along x w _ f.0.has (divided_below operator (width m x) (r.signal x) (r.signal y))
  value_below words w (SignedDivision operator x y) f = along x w _ f.0.has (signed_divided_below operator (width m x) (r.signal x) (r.signal y))
  value_below words w (MemoryRead j x) f =
      let s = f.0 in
      read_below (nat_lt (r.signal x) (memory_words (slice_get m.memories j))) w (r.word j (r.signal x))
      (λ e.
      let size : memory_words (slice_get m.memories j) ≡ length s.initial = ap memory_words f.1 in
      let l : r.signal x < memory_words (slice_get m.memories j) = grind (arith, nat_tests) in
      subst (λ k. r.word j (r.signal x) < 2 ^ k) f.2 (words j (r.signal x) s f.1 (omega arith)))
  value_below words w (Select x high low) f =
      subst (λ k. (r.signal x / 2 ^ low) % 2 ^ (high + 1 - low) < 2 ^ k) f.1 (mod_below (r.signal x / 2 ^ low) (2 ^ (high + 1 - low)) (pow_pos (high + 1 - low)))
  value_below words w (Concatenation xs) f = subst (λ k. joined m r xs 0 < 2 ^ k) (zero-add w) (joined_below xs w 0 0 f (lit< tt))
  value_below words w (Replication n x) f =
      subst (λ k. repeated n (width m x) (r.signal x) < 2 ^ k) f.2
      (subst (λ k. repeated n k (r.signal x) < 2 ^ (n * f.0)) (sym (width_is m x f.0 f.1.has)) (repeated_below n f.0 (r.signal x) f.1.below))
