-- The lines of a value change dump (IEEE 1364-2005, 18), of the form that this project writes.
use Rattle.std.specs.Prelude.{◌≡◌, ℕ, zero, suc, List, [], ◌∷◌, ◌++◌, ◌+◌, ◌/◌, ◌%◌, ◌^◌, ◌<◌, ◌==◌, false, if◌then◌else◌, decimal, codes, length, slice_index}
use Rattle.std.specs.Fmt.{digits}

-- at most so many digits of a number in base 94, the least first; digit d is the byte 33 + d
abbrev pub id_digits : ℕ → ℕ → List ℕ
id_digits zero number = []
id_digits (suc most) number = (33 + number % 94) ∷ (if number / 94 == 0 then [] else id_digits most (number / 94))

-- the identifier of the register of a number below 2 ^ 64
abbrev pub id_of : ℕ → List ℕ
id_of number = id_digits 10 number

-- a value and what parts it from the identifier: 0 or 1, or b, the minimal binary number, a space
abbrev pub value : ℕ → ℕ → List ℕ
value width v = if width == 1 then (48 + v) ∷ [] else 98 ∷ digits 2 false v ++ 32 ∷ []

-- the register of a width has this value
abbrev pub change : ℕ → ℕ → ℕ → List ℕ
change width v number = value width v ++ id_of number ++ 10 ∷ []

-- the same where the value was another one before
abbrev pub changed : ℕ → ℕ → ℕ → ℕ → List ℕ
changed width before now number = if before == now then [] else change width now number

-- the texts of the numbers below one, in order
abbrev pub joined : (ℕ → List ℕ) → ℕ → List ℕ
joined text zero = []
joined text (suc count) = joined text count ++ text count

-- the line of register k, by the widths of all registers and their values
abbrev pub change_at : List ℕ → List ℕ → ℕ → List ℕ
change_at widths now k = change (slice_index widths k) (slice_index now k) k

-- the same where the value was another one before
abbrev pub changed_at : List ℕ → List ℕ → List ℕ → ℕ → List ℕ
changed_at widths before now k = changed (slice_index widths k) (slice_index before k) (slice_index now k) k

-- the line of a number of cycles
abbrev pub time : ℕ → List ℕ
time cycles = 35 ∷ decimal cycles ++ 10 ∷ []

-- what a dump says at first: each register's value
abbrev pub first_frame : List ℕ → List ℕ → List ℕ
first_frame widths now =
    time 0 ++ codes "$dumpvars" ++ 10 ∷ joined (change_at widths now) (length widths) ++ codes "$end" ++ 10 ∷ []

-- what it says after so many cycles: the values that are other ones than a cycle before
abbrev pub frame : ℕ → List ℕ → List ℕ → List ℕ → List ℕ
frame cycles widths before now = time cycles ++ joined (changed_at widths before now) (length widths)

-- each register has a value, which its width holds
pub record AreValues (widths now : List ℕ) : Type 0 where
  pub each : length now ≡ length widths
  pub fit : (k : ℕ) → k < length widths → slice_index now k < 2 ^ slice_index widths k
