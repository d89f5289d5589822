-- What is promised of wires that are added, from some signals to others: they read earlier signals, and the answered signal or
-- word stands.
use Rattle.std.specs.Prelude.{◌≡◌, ℕ, ◌+◌, ◌<◌, ◌≤◌, ◌^◌, Bool, true, List, length}
use Rattle.hls_ints.specs.Types.{IntegerType, width_of}
use Rattle.c_program.specs.declared.tree.UnaryOperator.{UnaryOperator}
use Rattle.c_program.specs.declared.tree.BinaryOperator.{BinaryOperator}
use Rattle.verilog_tree.specs.declared.tree.BinaryOperator.{BinaryOperator as Gate}
use Rattle.netlist.specs.declared.netlist.Value.{Value}
use Rattle.netlist.specs.declared.netlist.Signal.{Signal}
use Rattle.circuit.specs.Modules.{FitsBinary}
use Rattle.operator_words.specs.Shown.{IsRight, unary_result, binary_result, truth_type}
use Rattle.operator_wires.specs.declared.words.Word.{Word}
use Rattle.operator_wires.specs.Built.{Base, IsEarlier, IsRightSide, Adds, StandsAs, AddsWord, AddsRight}

module _ (old new : List Signal) where
  -- ---- gates of w bits

  abbrev pub IsAdded : ℕ → Value → ℕ → Type 0
  IsAdded w right place = (base : Base) → IsRightSide old base w right → Adds base old new w place

  abbrev pub ConstantAdds : ℕ → ℕ → ℕ → Type 0
  ConstantAdds w n place = (base : Base) → base.first ≤ length old → 1 ≤ w → w ≤ 64 → n < 2 ^ w → Adds base old new w place

  abbrev pub NotAdds : ℕ → ℕ → ℕ → Type 0
  NotAdds w of place = (base : Base) → IsEarlier old base of w → Adds base old new w place

  abbrev pub BinaryAdds : Gate → ℕ → ℕ → ℕ → ℕ → Type 0
  BinaryAdds operator w left right place = (base : Base) → FitsBinary (IsEarlier old base) operator w left right → Adds base old new w place

  -- a bit of two bits
  abbrev pub BothAdds : ℕ → ℕ → ℕ → Type 0
  BothAdds left right place = (base : Base) → IsEarlier old base left 1 → IsEarlier old base right 1 → Adds base old new 1 place

  -- a bit that tells whether a signal of w bits has a number
  abbrev pub NumberAdds : ℕ → ℕ → ℕ → ℕ → Type 0
  NumberAdds w of number place = (base : Base) → IsEarlier old base of w → number < 2 ^ w → Adds base old new 1 place

  abbrev pub ChoiceAdds : ℕ → ℕ → ℕ → ℕ → ℕ → Type 0
  ChoiceAdds w condition if_set if_unset place = (base : Base) → IsEarlier old base condition 1 → IsEarlier old base if_set w → IsEarlier old base if_unset w → Adds base old new w place

  abbrev pub BesideAdds : ℕ → ℕ → ℕ → ℕ → Type 0
  BesideAdds bits high low place = (base : Base) (v w : ℕ) → IsEarlier old base high v → IsEarlier old base low w → bits ≡ v + w → bits ≤ 64 → Adds base old new bits place

  -- ---- other widths

  abbrev pub LowAdds : ℕ → ℕ → ℕ → Type 0
  LowAdds of to place = (base : Base) (w : ℕ) → IsEarlier old base of w → 1 ≤ to → to < w → Adds base old new to place

  abbrev pub SignAdds : ℕ → ℕ → ℕ → ℕ → Type 0
  SignAdds of from to place = (base : Base) → IsEarlier old base of from → 1 < from → from < to → to ≤ 64 → Adds base old new to place

  abbrev pub ZerosAdds : ℕ → ℕ → ℕ → ℕ → Type 0
  ZerosAdds of from to place = (base : Base) → IsEarlier old base of from → from < to → to ≤ 64 → Adds base old new to place

  -- a signed number has a bit besides its sign
  abbrev pub ResizedAdds : ℕ → ℕ → ℕ → Bool → ℕ → Type 0
  ResizedAdds of from to signed place = (base : Base) → IsEarlier old base of from → 1 ≤ to → to ≤ 64 → (signed ≡ true → 1 < from) → Adds base old new to place

  -- ---- words

  abbrev pub IsConstant : IntegerType → Word → Type 0
  IsConstant ty out = (base : Base) → base.first ≤ length old → AddsWord base old new ty out

  -- a word of a type, from a word of any type, or from two
  abbrev pub IsConverted : Word → IntegerType → Word → Type 0
  IsConverted word ty out = (base : Base) (from : IntegerType) → StandsAs old base from word → AddsWord base old new ty out

  abbrev pub IsOfTwo : Word → Word → IntegerType → Word → Type 0
  IsOfTwo left right ty out = (base : Base) (s t : IntegerType) → StandsAs old base s left → StandsAs old base t right → AddsWord base old new ty out

  -- a word of the type of one word, of two of one type, and of the left one of two
  abbrev pub LikeOne : Word → Word → Type 0
  LikeOne word out = (base : Base) (ty : IntegerType) → StandsAs old base ty word → AddsWord base old new ty out

  abbrev pub LikeTwo : Word → Word → Word → Type 0
  LikeTwo left right out = (base : Base) (ty : IntegerType) → StandsAs old base ty left → StandsAs old base ty right → AddsWord base old new ty out

  abbrev pub LikeLeft : Word → Word → Word → Type 0
  LikeLeft left right out = (base : Base) (ty t : IntegerType) → StandsAs old base ty left → StandsAs old base t right → AddsWord base old new ty out

  -- an int that tells something of a bit, of one word, of two of one type
  abbrev pub TruthOf : ℕ → Word → Type 0
  TruthOf bit out = (base : Base) → IsEarlier old base bit 1 → AddsWord base old new truth_type out

  abbrev pub TruthOfOne : Word → Word → Type 0
  TruthOfOne word out = (base : Base) (ty : IntegerType) → StandsAs old base ty word → AddsWord base old new truth_type out

  abbrev pub TruthOfTwo : Word → Word → Word → Type 0
  TruthOfTwo left right out = (base : Base) (ty : IntegerType) → StandsAs old base ty left → StandsAs old base ty right → AddsWord base old new truth_type out

  -- a bit that tells something of them
  abbrev pub BitOfOne : Word → ℕ → Type 0
  BitOfOne word place = (base : Base) (ty : IntegerType) → StandsAs old base ty word → Adds base old new 1 place

  abbrev pub BitOfTwo : Word → Word → ℕ → Type 0
  BitOfTwo left right place = (base : Base) (ty : IntegerType) → StandsAs old base ty left → StandsAs old base ty right → Adds base old new 1 place

  -- ---- operators

  abbrev pub QuotientOf : Word → Word → ℕ → Type 0
  QuotientOf left right place = (base : Base) (ty : IntegerType) → StandsAs old base ty left → StandsAs old base ty right → Adds base old new left.width place

  abbrev pub GateAdds : Gate → Word → Word → Word → Type 0
  GateAdds operator left right out =
      (base : Base) (ty : IntegerType) → StandsAs old base ty left → FitsBinary (IsEarlier old base) operator (width_of ty) left.place right.place → AddsWord base old new ty out

  abbrev pub UnaryAdds : UnaryOperator → Word → Word → Type 0
  UnaryAdds operator word out = (base : Base) (ty : IntegerType) → StandsAs old base ty word → AddsWord base old new (unary_result operator ty) out

  abbrev pub OwnAdds : BinaryOperator → Word → Word → Word → Type 0
  OwnAdds operator left right out =
      (base : Base) (s t : IntegerType) → IsRight operator s t → StandsAs old base s left → StandsAs old base t right → AddsWord base old new (binary_result operator s) out

  abbrev pub RightAdds : BinaryOperator → IntegerType → Word → Word → Type 0
  RightAdds operator ty right out = (base : Base) (t : IntegerType) → StandsAs old base t right → AddsRight base old new operator ty out
