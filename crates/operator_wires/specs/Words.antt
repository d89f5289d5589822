-- Words of values of integer types, in a reading of a module.
use Rattle.std.specs.Prelude.{◌≡◌, ℕ, ◌+◌, ◌-◌, ◌*◌, ◌/◌, ◌%◌, ◌^◌, Bool, ◌&&◌, if◌then◌else◌, nat_lt, List, ℤ}
use Rattle.netlist.specs.declared.netlist.Signal.{Signal}
use Rattle.netlist.specs.declared.netlist.Module.{Module}
use Rattle.circuit.specs.Readings.{Reading, width, repeated}
use Rattle.hls_ints.specs.Residues.{residue_of, bit_of}
use Rattle.hls_ints.specs.Types.{IntegerType, HasType, width_of, wrapped}
use Rattle.c_program.specs.declared.tree.BinaryOperator.{BinaryOperator}
use Rattle.operator_words.specs.Arithmetic.{is_shift}
use Rattle.operator_words.specs.Shown.{IsRight}
use Rattle.hls_ints.specs.Operators.{is_zero}
use Rattle.circuit.specs.Modules.{Obeys}
use Rattle.operator_wires.specs.declared.words.Word.{Word}
use Rattle.operator_wires.specs.Gives.{Grows, Gives}

-- a signal is as wide as a type, and shows this value of it
pub record IsWord (m : Module) (r : Reading) (word : Word) (ty : IntegerType) (v : ℤ) : Type 0 where
  pub says : word.width ≡ width_of ty
  pub sign : word.signed ≡ ty.signed
  pub wide : width m word.place ≡ width_of ty
  pub shows : r.signal word.place ≡ residue_of (width_of ty) v
  pub typed : HasType ty v

-- the low bits of n, or n under copies of its sign or zeros
abbrev pub resized_word : Bool → ℕ → ℕ → ℕ → ℕ
resized_word signed from to n =
    if nat_lt to from then n % 2 ^ (to - 1 + 1)
    else (if nat_lt from to && signed then repeated (to - from) 1 ((n / 2 ^ (from - 1)) % 2 ^ 1) * 2 ^ from + n
    else n)

-- the signal at a place shows another one, which is `from` bits wide, at `to` bits
pub record Resizes (old new : List Signal) (of from to : ℕ) (signed : Bool) (place : ℕ) : Type 0 where
  pub grows : Grows old new
  pub wide : (m : Module) → Grows new m.signals → width m of ≡ from → width m place ≡ to
  pub shows : (m : Module) (r : Reading) → Grows new m.signals → Obeys m r → width m of ≡ from → r.signal place ≡ resized_word signed from to (r.signal of)

-- a word of this width, with or without negative values, which has the number f
pub record Makes (old new : List Signal) (w : ℕ) (signed : Bool) (f : Module → Reading → ℕ) (out : Word) : Type 0 where
  pub says : out.width ≡ w
  pub sign : out.signed ≡ signed
  pub gives : Gives old new out.place w f

-- a word of type ty, of the value v
pub record Holds (old new : List Signal) (ty : IntegerType) (v : ℤ) (out : Word) : Type 0 where
  pub grows : Grows old new
  pub shows : (m : Module) (r : Reading) → Grows new m.signals → Obeys m r → IsWord m r out ty v

-- a bit that tells whether a value is 0
pub record TestsZero (old new : List Signal) (word : Word) (place : ℕ) : Type 0 where
  pub grows : Grows old new
  pub wide : (m : Module) → Grows new m.signals → width m place ≡ 1
  pub shows : (m : Module) (r : Reading) (ty : IntegerType) (v : ℤ) → Grows new m.signals → Obeys m r → IsWord m r word ty v → r.signal place ≡ bit_of (is_zero v)

-- a word of a value of any type becomes one of type ty, of the value of f
pub record Becomes (old new : List Signal) (word : Word) (ty : IntegerType) (f : ℤ → ℤ) (out : Word) : Type 0 where
  pub grows : Grows old new
  pub shows : (m : Module) (r : Reading) (from : IntegerType) (v : ℤ) → Grows new m.signals → Obeys m r → IsWord m r word from v → IsWord m r out ty (f v)

-- words of two values, of any types, become one of type ty, of the value of f
pub record Combine (old new : List Signal) (left right : Word) (ty : IntegerType) (f : ℤ → ℤ → ℤ) (out : Word) : Type 0 where
  pub grows : Grows old new
  pub shows : (m : Module) (r : Reading) (s t : IntegerType) (a b : ℤ) → Grows new m.signals → Obeys m r → IsWord m r left s a → IsWord m r right t b → IsWord m r out ty (f a b)

-- the same of a word of one type
pub record Applies (old new : List Signal) (word : Word) (from ty : IntegerType) (f : ℤ → ℤ) (out : Word) : Type 0 where
  pub grows : Grows old new
  pub shows : (m : Module) (r : Reading) (v : ℤ) → Grows new m.signals → Obeys m r → IsWord m r word from v → IsWord m r out ty (f v)

-- and of words of two types
pub record Joins (old new : List Signal) (left right : Word) (s t ty : IntegerType) (f : ℤ → ℤ → ℤ) (out : Word) : Type 0 where
  pub grows : Grows old new
  pub shows : (m : Module) (r : Reading) (a b : ℤ) → Grows new m.signals → Obeys m r → IsWord m r left s a → IsWord m r right t b → IsWord m r out ty (f a b)

-- the right operand of an operator at type ty: its value converted, or the count of a shift as it is
pub record IsRightWord (m : Module) (r : Reading) (operator : BinaryOperator) (ty : IntegerType) (y : ℤ) (out : Word) : Type 0 where
  pub kind : IntegerType
  pub is_right : IsRight operator ty kind
  pub word : IsWord m r out kind (if is_shift operator then y else wrapped ty y)

pub record TakesRight (old new : List Signal) (operator : BinaryOperator) (ty : IntegerType) (right out : Word) : Type 0 where
  pub grows : Grows old new
  pub shows : (m : Module) (r : Reading) (t : IntegerType) (y : ℤ) → Grows new m.signals → Obeys m r → IsWord m r right t y → IsRightWord m r operator ty y out
