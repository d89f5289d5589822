-- Words of operators behind others.
use Rattle.std.proofs.Common.{◌≡◌, ℕ, ◌≤◌, true, false, List, refl, sym, subst, ◌∙◌, arith}
use Rattle.std.specs.Prelude.{Result, Ok, Err, IfOk}
use Rattle.std.proofs.lemmas.Result.{IfOk-weaker}
use Rattle.std.proofs.lemmas.Nat.{pow_pos}
use Rattle.c_program.specs.declared.tree.UnaryOperator.{UnaryOperator}
use Rattle.c_program.specs.declared.tree.UnaryOperator.TheVariants.{Plus}
use Rattle.c_program.specs.declared.tree.BinaryOperator.{BinaryOperator}
use Rattle.verilog_tree.specs.declared.tree.BinaryOperator.{BinaryOperator as Gate}
use Rattle.verilog_tree.specs.declared.tree.BinaryOperator.TheVariants as gate
use Rattle.verilog_tree.specs.declared.tree.DivisionOperator.{DivisionOperator}
use Rattle.netlist.specs.declared.netlist.Signal.{Signal}
use Rattle.netlist.specs.declared.netlist.Value.{Value}
use Rattle.netlist.specs.declared.netlist.Value.TheVariants.{SignedLess, ArithmeticShiftRight, Division, SignedDivision}
use Rattle.hls_ints.specs.Types.{IntegerType, width_of}
use Rattle.circuit.specs.Modules.{FitsBinary}
use Rattle.operator_words.specs.Arithmetic.{is_shift}
use Rattle.operator_words.specs.Shown.{unary_result, binary_result, truth_type}
use Rattle.operator_wires.specs.declared.words.Word.{Word}
use Rattle.operator_wires.specs.Built.{Base, IsEarlier, IsRightSide, StandsAs, AddsWord}
use Rattle.operator_wires.specs.Added.{IsAdded, ConstantAdds, NotAdds, BinaryAdds, NumberAdds, IsConverted, IsOfTwo, LikeOne, LikeTwo, LikeLeft, TruthOf, TruthOfOne, TruthOfTwo, BitOfTwo, QuotientOf}
use Rattle.operator_wires.specs.Added.{GateAdds, UnaryAdds, OwnAdds, RightAdds}
use Rattle.operator_wires.proofs.BuiltWires.{stands_after, room_of, wires_then, adds_after}
use Rattle.operator_wires.proofs.TypedWords.{own, stands_as_after, word_like, word_none, word_after}

-- ---- wires of operators

pub negated_adds : (a b c : List Signal) (word out : Word) (zero place : ℕ) → ConstantAdds a b word.width 0 zero → BinaryAdds b c gate.Subtract word.width zero word.place place
    → out.place ≡ place → out.width ≡ word.width → out.signed ≡ word.signed → LikeOne a c word out
negated_adds a b c word out zero place t u at wide sign base ty is =
    let e = own base a ty word is in
    let none = t base (room_of a base word.place word.width e) e.low e.high (pow_pos word.width) in
    let made = u base (none.stands, stands_after a b base word.place word.width none.wires.grows e) in
    word_like base a c ty word out place is (adds_after base a b c word.width place none.wires made) at wide sign

pub complement_adds : (a b : List Signal) (word out : Word) (place : ℕ) → NotAdds a b word.width word.place place → out.place ≡ place → out.width ≡ word.width → out.signed ≡ word.signed
    → LikeOne a b word out
complement_adds a b word out place t at wide sign base ty is = word_like base a b ty word out place is (t base (own base a ty word is)) at wide sign

pub zero_word_adds : (a b c : List Signal) (word out : Word) (bit : ℕ) → NumberAdds a b word.width word.place 0 bit → TruthOf b c bit out → TruthOfOne a c word out
zero_word_adds a b c word out bit t u base ty is =
    let test = t base (own base a ty word is) (pow_pos word.width) in
    word_after base a b c truth_type out test.wires (u base test.stands)

pub gate_adds : (a b : List Signal) (operator : Gate) (left right out : Word) (place : ℕ) → BinaryAdds a b operator left.width left.place right.place place
    → out.place ≡ place → out.width ≡ left.width → out.signed ≡ left.signed → GateAdds a b operator left right out
gate_adds a b operator left right out place t at wide sign base ty is fits =
    word_like base a b ty left out place is
    (t base (subst (λ n. FitsBinary (IsEarlier a base) operator n left.place right.place) (sym is.says) fits)) at wide sign

two_right : (a : List Signal) (base : Base) (ty : IntegerType) (left right : Word) (v : Value) → StandsAs a base ty left → StandsAs a base ty right
    → (IsEarlier a base left.place left.width → IsEarlier a base right.place left.width → IsRightSide a base left.width v) → IsRightSide a base left.width v
two_right a base ty left right v is also h =
    h (own base a ty left is) (subst (λ n. IsEarlier a base right.place n) (sym is.says) also.stands)

pub division_adds : {E : Type 0} (x : Result ℕ E) (a b : List Signal) (operator : DivisionOperator) (left right : Word) → IfOk x (IsAdded a b left.width (Division operator left.place right.place))
    → IfOk x (QuotientOf a b left right)
division_adds x a b operator left right t =
    IfOk-weaker x (IsAdded a b left.width (Division operator left.place right.place)) (QuotientOf a b left right)
    (λ place u base ty is also.
    u base (two_right a base ty left right (Division operator left.place right.place) is also
    (λ e f. record { room = room_of a base left.place left.width e; low = e.low; high = e.high; fits = (e, f); selects = tt }))) t

pub signed_division_adds : {E : Type 0} (x : Result ℕ E) (a b : List Signal) (operator : DivisionOperator) (left right : Word)
    → IfOk x (IsAdded a b left.width (SignedDivision operator left.place right.place)) → IfOk x (QuotientOf a b left right)
signed_division_adds x a b operator left right t =
    IfOk-weaker x (IsAdded a b left.width (SignedDivision operator left.place right.place)) (QuotientOf a b left right)
    (λ place u base ty is also.
    u base (two_right a base ty left right (SignedDivision operator left.place right.place) is also
    (λ e f. record { room = room_of a base left.place left.width e; low = e.low; high = e.high; fits = (e, f); selects = tt }))) t

pub divided_adds : (a b : List Signal) (left right out : Word) (place : ℕ) → QuotientOf a b left right place → out.place ≡ place → out.width ≡ left.width → out.signed ≡ left.signed
    → LikeTwo a b left right out
divided_adds a b left right out place t at wide sign base ty is also = word_like base a b ty left out place is (t base ty is also) at wide sign

pub sign_shifted_adds : (a b : List Signal) (left right out : Word) (place : ℕ) → IsAdded a b left.width (ArithmeticShiftRight left.place right.place) place
    → out.place ≡ place → out.width ≡ left.width → out.signed ≡ left.signed → LikeLeft a b left right out
sign_shifted_adds a b left right out place t at wide sign base ty k is also =
    let e = own base a ty left is in
    word_like base a b ty left out place is
    (t base (record { room = room_of a base left.place left.width e; low = e.low; high = e.high; fits = (e, (width_of k, also.stands)); selects = tt })) at wide sign

pub shifted_adds : {E : Type 0} (x : Result Word E) (a b : List Signal) (left right : Word) → IfOk x (GateAdds a b gate.ShiftRight left right) → IfOk x (LikeLeft a b left right)
shifted_adds x a b left right t =
    IfOk-weaker x (GateAdds a b gate.ShiftRight left right) (LikeLeft a b left right) (λ out u base ty k is also. u base ty is (is.stands, (width_of k, also.stands))) t

pub signed_less_adds : {E : Type 0} (x : Result ℕ E) (a b : List Signal) (left right : Word) → IfOk x (IsAdded a b 1 (SignedLess left.place right.place)) → IfOk x (BitOfTwo a b left right)
signed_less_adds x a b left right t =
    IfOk-weaker x (IsAdded a b 1 (SignedLess left.place right.place)) (BitOfTwo a b left right)
    (λ place u base ty is also.
    u base (record {
      room = room_of a base left.place (width_of ty) is.stands;
      low = (let l : 1 ≤ 1 = omega arith in l);
      high = (let l : 1 ≤ 64 = omega arith in l);
      fits = (refl, (width_of ty, is.stands, also.stands));
      selects = tt;
    })) t

pub less_adds : {E : Type 0} (x : Result ℕ E) (a b : List Signal) (left right : Word) → IfOk x (BinaryAdds a b gate.Less 1 left.place right.place) → IfOk x (BitOfTwo a b left right)
less_adds x a b left right t =
    IfOk-weaker x (BinaryAdds a b gate.Less 1 left.place right.place) (BitOfTwo a b left right) (λ place u base ty is also. u base (refl, (width_of ty, is.stands, also.stands))) t

-- a bit of two words, and then what it tells
pub truth_after : (a b c : List Signal) (left right out : Word) (bit : ℕ) → BitOfTwo a b left right bit → TruthOf b c bit out → TruthOfTwo a c left right out
truth_after a b c left right out bit t u base ty is also =
    let test = t base ty is also in
    word_after base a b c truth_type out test.wires (u base test.stands)

pub equal_bit : (a b : List Signal) (left right : Word) (place : ℕ) → BinaryAdds a b gate.Equal 1 left.place right.place place → BitOfTwo a b left right place
equal_bit a b left right place t base ty is also = t base (refl, (width_of ty, is.stands, also.stands))

pub turned_adds : (a b c : List Signal) (bit turned : ℕ) (out : Word) → NotAdds a b 1 bit turned → TruthOf b c turned out → TruthOf a c bit out
turned_adds a b c bit turned out t u base e =
    let first = t base e in
    word_after base a b c truth_type out first.wires (u base first.stands)

-- ---- operators by cases

pub unary_arm : {E : Type 0} (x : Result Word E) (a b : List Signal) (word : Word) (operator known : UnaryOperator) → operator ≡ known → IfOk x (UnaryAdds a b known word)
    → IfOk x (UnaryAdds a b operator word)
unary_arm x a b word operator known e t = subst (λ (o : UnaryOperator). IfOk x (UnaryAdds a b o word)) (sym e) t

unary_none : (a : List Signal) (word : Word) → UnaryAdds a a Plus word word
unary_none a word base ty is = word_none base a ty word is

pub plus_kept : (a : List Signal) (word : Word) (operator : UnaryOperator) → operator ≡ Plus → UnaryAdds a a operator word word
plus_kept a word operator e = subst (λ (o : UnaryOperator). UnaryAdds a a o word word) (sym e) (unary_none a word)

pub unary_adds : {E : Type 0} (x : Result Word E) (a b c : List Signal) (operator : UnaryOperator) (ty : IntegerType) (word middle : Word) → IsConverted a b word ty middle
    → IfOk x (UnaryAdds b c operator middle) → IfOk x (IsConverted a c word (unary_result operator ty))
unary_adds x a b c operator ty word middle t u =
    IfOk-weaker x (UnaryAdds b c operator middle) (IsConverted a c word (unary_result operator ty))
    (λ out made base from is.
    let first = t base from is in
    word_after base a b c (unary_result operator ty) out first.wires (made base ty first.word)) u

own_arm : {E : Type 0} (x : Result Word E) (a b : List Signal) (left right : Word) (operator known : BinaryOperator) (P : Word → Type 0) → operator ≡ known
    → ((out : Word) → P out → OwnAdds a b known left right out) → IfOk x P → IfOk x (OwnAdds a b operator left right)
own_arm x a b left right operator known P e h t =
    subst (λ (o : BinaryOperator). IfOk x (OwnAdds a b o left right)) (sym e) (IfOk-weaker x P (OwnAdds a b known left right) h t)

pub gate_arm : {E : Type 0} (x : Result Word E) (a b : List Signal) (left right : Word) (operator known : BinaryOperator) (g : Gate) → operator ≡ known
    → IfOk x (GateAdds a b g left right) → ((s : IntegerType) → binary_result known s ≡ s) → is_shift known ≡ false
    → ((base : Base) (w : ℕ) → IsEarlier a base left.place w → IsEarlier a base right.place w → FitsBinary (IsEarlier a base) g w left.place right.place)
    → IfOk x (OwnAdds a b operator left right)
gate_arm x a b left right operator known g e t same plain fits =
    own_arm x a b left right operator known (GateAdds a b g left right) e
    (λ out u base s k right_type is also.
    let other = subst (λ (z : IntegerType). StandsAs a base z right) (right_type plain) also in
    subst (λ (z : IntegerType). AddsWord base a b z out) (sym (same s)) (u base s is (fits base (width_of s) is.stands other.stands))) t

pub shift_arm : {E : Type 0} (x : Result Word E) (a b : List Signal) (left right : Word) (operator known : BinaryOperator) → operator ≡ known → IfOk x (LikeLeft a b left right)
    → ((s : IntegerType) → binary_result known s ≡ s) → IfOk x (OwnAdds a b operator left right)
shift_arm x a b left right operator known e t same =
    own_arm x a b left right operator known (LikeLeft a b left right) e
    (λ out u base s k right_type is also. subst (λ (z : IntegerType). AddsWord base a b z out) (sym (same s)) (u base s k is also)) t

pub shift_left : {E : Type 0} (x : Result Word E) (a b : List Signal) (left right : Word) → IfOk x (GateAdds a b gate.ShiftLeft left right) → IfOk x (LikeLeft a b left right)
shift_left x a b left right t =
    IfOk-weaker x (GateAdds a b gate.ShiftLeft left right) (LikeLeft a b left right) (λ out u base ty k is also. u base ty is (is.stands, (width_of k, also.stands))) t

pub division_arm : {E : Type 0} (x : Result Word E) (a b : List Signal) (left right : Word) (operator known : BinaryOperator) → operator ≡ known → IfOk x (LikeTwo a b left right)
    → ((s : IntegerType) → binary_result known s ≡ s) → is_shift known ≡ false → IfOk x (OwnAdds a b operator left right)
division_arm x a b left right operator known e t same plain =
    own_arm x a b left right operator known (LikeTwo a b left right) e
    (λ out u base s k right_type is also.
    subst (λ (z : IntegerType). AddsWord base a b z out) (sym (same s)) (u base s is (subst (λ (z : IntegerType). StandsAs a base z right) (right_type plain) also))) t

pub test_arm : {E : Type 0} (x : Result Word E) (a b : List Signal) (left right : Word) (operator known : BinaryOperator) → operator ≡ known → IfOk x (TruthOfTwo a b left right)
    → ((s : IntegerType) → binary_result known s ≡ truth_type) → is_shift known ≡ false → IfOk x (OwnAdds a b operator left right)
test_arm x a b left right operator known e t same plain =
    own_arm x a b left right operator known (TruthOfTwo a b left right) e
    (λ out u base s k right_type is also.
    subst (λ (z : IntegerType). AddsWord base a b z out) (sym (same s)) (u base s is (subst (λ (z : IntegerType). StandsAs a base z right) (right_type plain) also))) t

-- the same of a test of the right operand and the left one
pub turned_arm : {E : Type 0} (x : Result Word E) (a b : List Signal) (left right : Word) (operator known : BinaryOperator) → operator ≡ known → IfOk x (TruthOfTwo a b right left)
    → ((s : IntegerType) → binary_result known s ≡ truth_type) → is_shift known ≡ false → IfOk x (OwnAdds a b operator left right)
turned_arm x a b left right operator known e t same plain =
    own_arm x a b left right operator known (TruthOfTwo a b right left) e
    (λ out u base s k right_type is also.
    subst (λ (z : IntegerType). AddsWord base a b z out) (sym (same s)) (u base s (subst (λ (z : IntegerType). StandsAs a base z right) (right_type plain) also) is)) t

-- ---- the right operand

pub right_kept : (a : List Signal) (operator : BinaryOperator) (ty : IntegerType) (right : Word) → is_shift operator ≡ true → RightAdds a a operator ty right right
right_kept a operator ty right shift base t is = record { kind = t; is_right = λ none. absurd (let both : true ≡ false = sym shift ∙ none in cc); adds = word_none base a t right is }

pub right_converted : {E : Type 0} (x : Result Word E) (a b : List Signal) (operator : BinaryOperator) (ty : IntegerType) (right : Word) → IfOk x (IsConverted a b right ty)
    → IfOk x (RightAdds a b operator ty right)
right_converted x a b operator ty right t =
    IfOk-weaker x (IsConverted a b right ty) (RightAdds a b operator ty right) (λ out u base from is. record { kind = ty; is_right = λ none. refl; adds = u base from is }) t

pub binary_adds : {E : Type 0} (x : Result Word E) (a b c d : List Signal) (operator : BinaryOperator) (ty : IntegerType) (left right first second : Word) → IsConverted a b left ty first
    → RightAdds b c operator ty right second → IfOk x (OwnAdds c d operator first second)
    → IfOk x (IsOfTwo a d left right (binary_result operator ty))
binary_adds x a b c d operator ty left right first second t u v =
    IfOk-weaker x (OwnAdds c d operator first second)
    (IsOfTwo a d left right (binary_result operator ty))
    (λ out made base s k is also.
    let one = t base s is in
    let two = u base k (stands_as_after base a b k right one.wires also) in
    let kept = stands_as_after base b c ty first two.adds.wires one.word in
    word_after base a c d (binary_result operator ty) out (wires_then base a b c one.wires two.adds.wires)
    (made base ty two.kind two.is_right kept two.adds.word)) v
