-- One module: the equations of its signals, what a clock edge leaves, and what it writes (IEEE 1364-2005, 5, 6.1, 9.2.2, 17.1).
use Rattle.std.specs.Prelude.{ℕ, zero, suc, ◌+◌, ◌-◌, ◌*◌, ◌/◌, ◌%◌, ◌^◌, Bool, true, ◌&&◌, List, [], ◌∷◌, ◌++◌, length, Option, Some, None, slice_get, nat_eq, nat_lt, decimal, if◌then◌else◌}
use Rattle.std.specs.Fmt.{signed_decimal}
use Rattle.hls_ints.specs.Words.{signed_word, word_sum, word_difference, word_product, word_quotient, word_remainder, signed_quotient, signed_remainder, word_less, signed_less, word_equal}
use Rattle.hls_ints.specs.Words.{word_complement, word_and, word_exclusive_or, word_inclusive_or, left_shift, right_shift, arithmetic_shift}
use Rattle.netlist.specs.BinaryOperator.{BinaryOperator}
use Rattle.netlist.specs.BinaryOperator.TheVariants.{Add, Subtract, Multiply, And, Or, Xor, Equal, Less, ShiftLeft, ShiftRight}
use Rattle.netlist.specs.DivisionOperator.{DivisionOperator}
use Rattle.netlist.specs.DivisionOperator.TheVariants.{Quotient, Remainder}
use Rattle.netlist.specs.declared.netlist.Value.{Value}
use Rattle.netlist.specs.declared.netlist.Value.TheVariants.{Copy, Constant, BitwiseNot, Binary, SignedLess, ArithmeticShiftRight, Conditional, Division, SignedDivision, MemoryRead, Select}
use Rattle.netlist.specs.declared.netlist.Value.TheVariants.{Concatenation, Replication}
use Rattle.netlist.specs.declared.netlist.Signal.{Signal}
use Rattle.netlist.specs.declared.netlist.Source.{Source}
use Rattle.netlist.specs.declared.netlist.Source.TheVariants.{Register}
use Rattle.netlist.specs.declared.netlist.Memory.{Memory}
use Rattle.netlist.specs.declared.netlist.Argument.{Argument}
use Rattle.netlist.specs.declared.netlist.Argument.TheVariants.{Unsigned, Signed}
use Rattle.netlist.specs.declared.netlist.Effect.{Effect}
use Rattle.netlist.specs.declared.netlist.Effect.TheVariants.{Set, Store, Write}
use Rattle.netlist.specs.declared.netlist.Action.{Action}
use Rattle.netlist.specs.declared.netlist.Module.{Module}

-- a number for every signal and every memory word of a module
pub record Reading : Type 0 where
  pub signal : ℕ → ℕ
  pub word : ℕ → ℕ → ℕ

abbrev pub signal_width : Option Signal → ℕ
signal_width None = 0
signal_width (Some s) = s.width

abbrev pub memory_words : Option Memory → ℕ
memory_words None = 0
memory_words (Some s) = length s.initial

-- an operator on two numbers of a width
abbrev pub binary : BinaryOperator → ℕ → ℕ → ℕ → ℕ
binary Add w a b = word_sum w a b
binary Subtract w a b = word_difference w a b
binary Multiply w a b = word_product w a b
binary And w a b = word_and w a b
binary Or w a b = word_inclusive_or w a b
binary Xor w a b = word_exclusive_or w a b
binary Equal w a b = word_equal w a b
binary Less w a b = word_less w a b
binary ShiftLeft w a b = left_shift w a b
binary ShiftRight w a b = right_shift w a b

abbrev pub divided : DivisionOperator → ℕ → ℕ → ℕ → ℕ
divided Quotient w a b = word_quotient w a b
divided Remainder w a b = word_remainder w a b

abbrev pub signed_divided : DivisionOperator → ℕ → ℕ → ℕ → ℕ
signed_divided Quotient w a b = signed_quotient w a b
signed_divided Remainder w a b = signed_remainder w a b

-- n copies of a number of a width, one beside the other
abbrev pub repeated : ℕ → ℕ → ℕ → ℕ
repeated zero w a = 0
repeated (suc n) w a = repeated n w a * 2 ^ w + a

module _ (m : Module) where
  abbrev pub width : ℕ → ℕ
  width x = signal_width (slice_get m.signals x)

  -- numbers one beside the other, the first with the highest bits, after those so far
  abbrev pub joined : Reading → List ℕ → ℕ → ℕ
  joined r [] above = above
  joined r (x ∷ xs) above = joined r xs (above * 2 ^ width x + r.signal x)

  -- the value of a right side (section 5); both operands of an operator have one width, which for all but
  -- comparisons is that of the target
  abbrev pub value : Reading → Value → ℕ
  value r (Copy x) = r.signal x
  value r (Constant n) = n
  value r (BitwiseNot x) = word_complement (width x) (r.signal x)
  value r (Binary operator x y) = binary operator (width x) (r.signal x) (r.signal y)
  value r (SignedLess x y) = signed_less (width x) (r.signal x) (r.signal y)
  value r (ArithmeticShiftRight x y) = arithmetic_shift (width x) (r.signal x) (r.signal y)
  value r (Conditional c x y) = if nat_eq (r.signal c) 0 then r.signal y else r.signal x
  value r (Division operator x y) = divided operator (width x) (r.signal x) (r.signal y)
  value r (SignedDivision operator x y) = signed_divided operator (width x) (r.signal x) (r.signal y)
  value r (MemoryRead j x) = if nat_lt (r.signal x) (memory_words (slice_get m.memories j)) then r.word j (r.signal x) else 0
  value r (Select x high low) = (r.signal x / 2 ^ low) % 2 ^ (high + 1 - low)
  value r (Concatenation xs) = joined r xs 0
  value r (Replication n x) = repeated n (width x) (r.signal x)

-- ---- a clock edge: all statements read the numbers before it, and of several to one place the last prevails (9.2.2)

-- whether the conditions of an action hold
abbrev pub is_on : Reading → List ℕ → Bool
is_on r [] = true
is_on r (x ∷ xs) = nat_lt 0 (r.signal x) && is_on r xs

-- the number of register k after one statement, where it was old
abbrev pub set_by : Reading → Effect → ℕ → ℕ → ℕ
set_by r (Set x y) k old = if nat_eq x k then r.signal y else old
set_by r (Store j x y) k old = old
set_by r (Write text arguments) k old = old

-- the number of word k of memory j after one statement, where it was old
abbrev pub stored_by : Reading → Effect → ℕ → ℕ → ℕ → ℕ
stored_by r (Set x y) j k old = old
stored_by r (Store i x y) j k old = if nat_eq i j && nat_eq (r.signal x) k then r.signal y else old
stored_by r (Write text arguments) j k old = old

abbrev pub register_after : Reading → List Action → ℕ → ℕ → ℕ
register_after r [] k old = old
register_after r (a ∷ actions) k old = register_after r actions k (if is_on r a.conditions then set_by r a.effect k old else old)

abbrev pub word_after : Reading → List Action → ℕ → ℕ → ℕ → ℕ
word_after r [] j k old = old
word_after r (a ∷ actions) j k old = word_after r actions j k (if is_on r a.conditions then stored_by r a.effect j k old else old)

-- what an edge leaves in the registers and memory words
abbrev pub next_reading : Module → Reading → Reading
next_reading m r = record {
  signal = λ k. register_after r m.actions k (r.signal k);
  word = λ j k. word_after r m.actions j k (r.word j k);
}

-- ---- what an edge writes (3.6, 17.1)

-- how far a string of $write is read: at a plain byte, after a backslash, after a %, and after %0
pub data Mode : Type 0 where
  Plain : Mode
  Escape : Mode
  Percent : Mode
  PercentZero : Mode

abbrev pub plain_mode : ℕ → Mode
plain_mode b = if nat_eq b 92 then Escape else (if nat_eq b 37 then Percent else Plain)

abbrev pub mode_after : Mode → ℕ → Mode
mode_after Plain b = plain_mode b
mode_after Escape b = Plain
mode_after Percent b = if nat_eq b 48 then PercentZero else Plain
mode_after PercentZero b = Plain

-- the byte for an escape: a line end, a tab, or the byte itself
abbrev pub escaped : ℕ → ℕ
escaped b = if nat_eq b 110 then 10 else (if nat_eq b 116 then 9 else b)

abbrev pub plain_bytes : ℕ → Mode → List ℕ
plain_bytes b Plain = b ∷ []
plain_bytes b Escape = []
plain_bytes b Percent = []
plain_bytes b PercentZero = []

abbrev pub first_of : List (List ℕ) → List ℕ
first_of [] = []
first_of (v ∷ vs) = v

abbrev pub rest_of : List (List ℕ) → List (List ℕ)
rest_of [] = []
rest_of (v ∷ vs) = vs

-- what a byte of the string stands for, the values still to come being these
abbrev pub bytes_of : Mode → ℕ → List (List ℕ) → List ℕ
bytes_of Plain b vs = plain_bytes b (plain_mode b)
bytes_of Escape b vs = escaped b ∷ []
bytes_of Percent b vs = if nat_eq b 48 then [] else b ∷ []
bytes_of PercentZero b vs = first_of vs

abbrev pub values_after : Mode → List (List ℕ) → List (List ℕ)
values_after Plain vs = vs
values_after Escape vs = vs
values_after Percent vs = vs
values_after PercentZero vs = rest_of vs

-- the bytes of a string, with the values put in for %0d
abbrev pub filled : Mode → List ℕ → List (List ℕ) → List ℕ
filled mode [] vs = []
filled mode (b ∷ text) vs = bytes_of mode b vs ++ filled (mode_after mode b) text (values_after mode vs)

module _ (m : Module) (r : Reading) where
  -- the minimal decimal of a value
  abbrev pub argument_bytes : Argument → List ℕ
  argument_bytes (Unsigned x) = decimal (r.signal x)
  argument_bytes (Signed x) = signed_decimal (signed_word (width m x) (r.signal x))

  abbrev pub all_arguments : List Argument → List (List ℕ)
  all_arguments [] = []
  all_arguments (a ∷ arguments) = argument_bytes a ∷ all_arguments arguments

  abbrev pub effect_bytes : Effect → List ℕ
  effect_bytes (Set x y) = []
  effect_bytes (Store j x y) = []
  effect_bytes (Write text arguments) = filled Plain text (all_arguments arguments)

  abbrev pub action_bytes : List Action → List ℕ
  action_bytes [] = []
  action_bytes (a ∷ actions) = (if is_on r a.conditions then effect_bytes a.effect else []) ++ action_bytes actions

  abbrev pub written : List ℕ
  written = action_bytes m.actions

-- ---- the initial constants

abbrev pub initial_number : Source → ℕ
initial_number (Register n) = n
initial_number _ = 0

abbrev pub initial_signal : Option Signal → ℕ
initial_signal None = 0
initial_signal (Some s) = initial_number s.source

abbrev pub or_zero : Option ℕ → ℕ
or_zero None = 0
or_zero (Some n) = n

abbrev pub initial_word : Option Memory → ℕ → ℕ
initial_word None k = 0
initial_word (Some s) k = or_zero (slice_get s.initial k)

abbrev pub initial_reading : Option Module → Reading
initial_reading None = record { signal = λ k. 0; word = λ j k. 0 }
initial_reading (Some m) = record { signal = λ k. initial_signal (slice_get m.signals k); word = λ j k. initial_word (slice_get m.memories j) k }
