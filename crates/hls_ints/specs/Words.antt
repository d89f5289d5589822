-- What the operators of Verilog give on words of w bits, 1 to 64, in two states (IEEE 1364-2005, 5.1 and 5.5).
-- Operands are read modulo 2 ^ w; results are below 2 ^ w.
use Rattle.std.specs.Prelude.{ℕ, ◌+◌, ◌-◌, ◌*◌, ◌/◌, ◌%◌, ◌^◌, if◌then◌else◌, nat_eq, nat_lt, int_lt, int_div, int_rem, ℤ, pos, ◌-ℤ◌, bit_and, bit_or, bit_xor}
use Rattle.hls_ints.specs.Residues.{residue_of, signed_value_of, floor_quotient, bit_of}

-- a modulo 2 ^ w
abbrev pub word : ℕ → ℕ → ℕ
word w a = a % 2 ^ w

-- $signed(a): the word as a number in two's complement
abbrev pub signed_word : ℕ → ℕ → ℤ
signed_word w a = signed_value_of w (word w a)

-- a + b, a - b, a * b modulo 2 ^ w (5.1.5)
abbrev pub word_sum : ℕ → ℕ → ℕ → ℕ
word_sum w a b = word w (a + b)

abbrev pub word_difference : ℕ → ℕ → ℕ → ℕ
word_difference w a b = residue_of w (pos a -ℤ pos b)

abbrev pub word_product : ℕ → ℕ → ℕ → ℕ
word_product w a b = word w (a * b)

-- (b == 0) ? 0 : e, the guard that keeps x out of a division
abbrev pub guarded : ℕ → ℕ → ℕ → ℕ
guarded w b e = if nat_eq (word w b) 0 then 0 else e

-- a / b, a % b (5.1.5)
abbrev pub word_quotient : ℕ → ℕ → ℕ → ℕ
word_quotient w a b = guarded w b (word w a / word w b)

abbrev pub word_remainder : ℕ → ℕ → ℕ → ℕ
word_remainder w a b = guarded w b (word w a % word w b)

-- $signed(a) / $signed(b), rounded toward zero and modulo 2 ^ w: the least number by -1 is itself
abbrev pub signed_quotient : ℕ → ℕ → ℕ → ℕ
signed_quotient w a b = guarded w b (residue_of w (int_div (signed_word w a) (signed_word w b)))

-- $signed(a) % $signed(b), with the sign of a
abbrev pub signed_remainder : ℕ → ℕ → ℕ → ℕ
signed_remainder w a b = guarded w b (residue_of w (int_rem (signed_word w a) (signed_word w b)))

-- a < b, $signed(a) < $signed(b), a == b: one bit (5.1.7, 5.1.8)
abbrev pub word_less : ℕ → ℕ → ℕ → ℕ
word_less w a b = bit_of (nat_lt (word w a) (word w b))

abbrev pub signed_less : ℕ → ℕ → ℕ → ℕ
signed_less w a b = bit_of (int_lt (signed_word w a) (signed_word w b))

abbrev pub word_equal : ℕ → ℕ → ℕ → ℕ
word_equal w a b = bit_of (nat_eq (word w a) (word w b))

-- ~a, a & b, a ^ b, a | b (5.1.10)
abbrev pub word_complement : ℕ → ℕ → ℕ
word_complement w a = 2 ^ w - 1 - word w a

abbrev pub word_and : ℕ → ℕ → ℕ → ℕ
word_and w a b = bit_and (word w a) (word w b)

abbrev pub word_exclusive_or : ℕ → ℕ → ℕ → ℕ
word_exclusive_or w a b = bit_xor (word w a) (word w b)

abbrev pub word_inclusive_or : ℕ → ℕ → ℕ → ℕ
word_inclusive_or w a b = bit_or (word w a) (word w b)

-- a << b, a >> b: zeros come in, so a count of w or more leaves 0 (5.1.12). The count b is read as it is
abbrev pub left_shift : ℕ → ℕ → ℕ → ℕ
left_shift w a b = if nat_lt b w then word w (a * 2 ^ b) else 0

abbrev pub right_shift : ℕ → ℕ → ℕ → ℕ
right_shift w a b = if nat_lt b w then word w a / 2 ^ b else 0

-- $signed(a) >>> b: copies of the sign come in, so a count of w or more leaves the sign alone (5.1.12)
abbrev pub arithmetic_shift : ℕ → ℕ → ℕ → ℕ
arithmetic_shift w a b = residue_of w (floor_quotient (signed_word w a) (2 ^ (if nat_lt b w then b else w)))
