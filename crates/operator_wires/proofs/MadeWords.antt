-- Words that are made, and what operators show on them.
use Rattle.std.proofs.Common.{◌≡◌, ℕ, Bool, true, false, if◌then◌else◌, List, ℤ, refl, sym, ap, subst, ◌∙◌}
use Rattle.std.specs.Prelude.{Result, Ok, Err, IfOk, OnOk}
use Rattle.c_program.specs.declared.tree.UnaryOperator.{UnaryOperator}
use Rattle.c_program.specs.declared.tree.BinaryOperator.{BinaryOperator}
use Rattle.verilog_tree.specs.declared.tree.BinaryOperator.{BinaryOperator as Gate}
use Rattle.netlist.specs.declared.netlist.Signal.{Signal}
use Rattle.netlist.specs.declared.netlist.Module.{Module}
use Rattle.circuit.specs.Readings.{Reading, width, binary}
pub use Rattle.std.proofs.lemmas.Result.{IfOk-weaker as of_ok}
use Rattle.hls_ints.specs.Residues.{residue_of}
use Rattle.hls_ints.specs.Types.{IntegerType, width_of, wrapped}
use Rattle.hls_ints.specs.Words.{word_equal, word_complement}
use Rattle.hls_ints.proofs.Conversions.{residue_of-wrapped, wrapped-range}
use Rattle.operator_words.specs.Arithmetic.{unary_at, binary_at, unary_total, binary_total, is_shift}
use Rattle.operator_words.specs.Shown.{unary_result, binary_result, unary_word, binary_word, IsRight, truth_type, less_word}
use Rattle.operator_words.proofs.Operators.{not_zero, unary_shows, unary_keeps_type, binary_shows, binary_keeps_type}
use Rattle.operator_wires.specs.declared.words.Word.{Word}
use Rattle.operator_wires.specs.Gives.{Gives}
use Rattle.operator_wires.specs.Words.{IsWord, Makes, Holds, TestsZero, Becomes, Combine, Applies, Joins, TakesRight}
use Rattle.operator_wires.specs.Numbers.{less_number}
use Rattle.operator_wires.proofs.PutSignals.{grows_refl, grows_then}

-- ---- two facts of an answer

pub on_two : {A E : Type 0} (x : Result A E) (P Q R : Type 0) → (P → Q → R) → OnOk x P → OnOk x Q → OnOk x R
on_two (Ok a) P Q R h p q = h p q
on_two (Err e) P Q R h p q = tt

pub of_two : {A E : Type 0} (x : Result A E) (P Q R : A → Type 0) → ((a : A) → P a → Q a → R a) → IfOk x P → IfOk x Q → IfOk x R
of_two (Ok a) P Q R h p q = h a p q
of_two (Err e) P Q R h p q = tt

-- ---- words

pub constant_holds : (a b : List Signal) (ty : IntegerType) (z : ℤ) (out : Word) (n w place : ℕ) → Gives a b place w (λ m r. n) → w ≡ width_of ty → n ≡ residue_of (width_of ty) z
    → out.place ≡ place → out.width ≡ width_of ty → out.signed ≡ ty.signed → Holds a b ty (wrapped ty z) out
constant_holds a b ty z out n w place t e f at wide sign = record {
  grows = t.grows;
  shows = λ m r g o. record {
    says = wide;
    sign = sign;
    wide = ap (width m) at ∙ t.wide m g ∙ e;
    shows = ap r.signal at ∙ t.shows m r g o ∙ f ∙ sym (residue_of-wrapped ty z);
    typed = wrapped-range ty z;
  };
}

pub tests_zero : (a b : List Signal) (word : Word) (place : ℕ) → Gives a b place 1 (λ m r. word_equal (width m word.place) (r.signal word.place) 0) → TestsZero a b word place
tests_zero a b word place t = record {
  grows = t.grows;
  wide = t.wide;
  shows = λ m r ty v g o is.
      t.shows m r g o ∙ ap (λ w. word_equal w (r.signal word.place) 0) is.wide ∙ ap (λ x. word_equal (width_of ty) x 0) is.shows ∙ not_zero ty v is.typed;
}

-- a bit, and then a word of it
pub truth_makes : (a b c : List Signal) (bit v w : ℕ) (signed : Bool) (f : Module → Reading → ℕ) (out : Word) → Gives a b bit v f → Makes b c w signed (λ m r. r.signal bit) out → Makes a c w signed f out
truth_makes a b c bit v w signed f out t u = record {
  says = u.says;
  sign = u.sign;
  gives = record {
    grows = grows_then a b c t.grows u.gives.grows;
    stands = u.gives.stands;
    wide = u.gives.wide;
    shows = λ m r g o. u.gives.shows m r g o ∙ t.shows m r (grows_then b c m.signals u.gives.grows g) o;
  };
}

-- a bit, and then a word of its opposite
pub turned_makes : (a b c : List Signal) (bit : ℕ) (f : Module → Reading → ℕ) (out : Word) → Gives a b bit 1 f
    → Makes b c 32 true (λ m r. word_complement (width m bit) (r.signal bit)) out → Makes a c 32 true (λ m r. word_complement 1 (f m r)) out
turned_makes a b c bit f out t u = record {
  says = u.says;
  sign = u.sign;
  gives = record {
    grows = grows_then a b c t.grows u.gives.grows;
    stands = u.gives.stands;
    wide = u.gives.wide;
    shows = λ m r g o.
        let before = grows_then b c m.signals u.gives.grows g in
        u.gives.shows m r g o ∙ ap (λ w. word_complement w (r.signal bit)) (t.wide m before) ∙ ap (word_complement 1) (t.shows m r before o);
  };
}

-- ---- operators

pub makes_applies : (operator : UnaryOperator) (ty : IntegerType) (a b : List Signal) (own out : Word) (w : ℕ) (signed : Bool) (f : Module → Reading → ℕ) → Makes a b w signed f out
    → (own.width ≡ width_of ty → w ≡ width_of (unary_result operator ty)) → (own.signed ≡ ty.signed → signed ≡ (unary_result operator ty).signed)
    → ((m : Module) (r : Reading) → own.width ≡ width_of ty → width m own.place ≡ width_of ty → f m r ≡ unary_word operator ty (r.signal own.place))
    → Applies a b own ty (unary_result operator ty) (unary_at operator ty) out
makes_applies operator ty a b own out w signed f t wide sign same = record {
  grows = t.gives.grows;
  shows = λ m r v g o is. record {
    says = t.says ∙ wide is.says;
    sign = t.sign ∙ sign is.sign;
    wide = t.gives.wide m g ∙ wide is.says;
    shows = t.gives.shows m r g o ∙ same m r is.says is.wide ∙ ap (unary_word operator ty) is.shows ∙ unary_shows operator ty v is.typed;
    typed = unary_keeps_type operator ty v is.typed;
  };
}

pub unary_becomes : (operator : UnaryOperator) (ty : IntegerType) (a b c : List Signal) (word own out : Word) → Becomes a b word ty (wrapped ty) own
    → Applies b c own ty (unary_result operator ty) (unary_at operator ty) out → Becomes a c word (unary_result operator ty) (unary_total operator ty) out
unary_becomes operator ty a b c word own out t u = record {
  grows = grows_then a b c t.grows u.grows;
  shows = λ m r from v g o is. u.shows m r (wrapped ty v) g o (t.shows m r from v (grows_then b c m.signals u.grows g) o is);
}

-- what is known of the operands of a binary operator
pub record AreOperands (m : Module) (left right : Word) (s t : IntegerType) : Type 0 where
  pub signed : left.signed ≡ s.signed
  pub wide : width m left.place ≡ width_of s
  pub signed_right : right.signed ≡ t.signed
  pub wide_right : width m right.place ≡ width_of t

pub makes_joins : (operator : BinaryOperator) (s t : IntegerType) → IsRight operator s t → (a b : List Signal) (left right out : Word) (w : ℕ) (signed : Bool) (f : Module → Reading → ℕ)
    → Makes a b w signed f out → (left.width ≡ width_of s → w ≡ width_of (binary_result operator s)) → (left.signed ≡ s.signed → signed ≡ (binary_result operator s).signed)
    → ((m : Module) (r : Reading) → AreOperands m left right s t → f m r ≡ binary_word operator s (r.signal left.place) (r.signal right.place))
    → Joins a b left right s t (binary_result operator s) (binary_at operator s) out
makes_joins operator s t right_type a b left right out w signed f u wide sign same = record {
  grows = u.gives.grows;
  shows = λ m r x y g o is also. record {
    says = u.says ∙ wide is.says;
    sign = u.sign ∙ sign is.sign;
    wide = u.gives.wide m g ∙ wide is.says;
    shows =
        u.gives.shows m r g o ∙ same m r (record { signed = is.sign; wide = is.wide; signed_right = also.sign; wide_right = also.wide })
        ∙ ap (λ n. binary_word operator s n (r.signal right.place)) is.shows ∙ ap (binary_word operator s (residue_of (width_of s) x)) also.shows
        ∙ binary_shows operator s t x y right_type is.typed also.typed;
    typed = binary_keeps_type operator s x y is.typed;
  };
}

abbrev pub OwnApplies : List Signal → List Signal → Word → UnaryOperator → Word → Type 0
OwnApplies a b own operator out = (ty : IntegerType) → Applies a b own ty (unary_result operator ty) (unary_at operator ty) out

abbrev pub OwnJoins : List Signal → List Signal → Word → Word → BinaryOperator → Word → Type 0
OwnJoins a b left right operator out = (s t : IntegerType) → IsRight operator s t → Joins a b left right s t (binary_result operator s) (binary_at operator s) out

-- an operator of these, in an arm of a match
pub unary_arm : {E : Type 0} (x : Result Word E) (a b : List Signal) (own : Word) (operator known : UnaryOperator) (w : ℕ) (signed : Bool) (f : Module → Reading → ℕ) → operator ≡ known
    → IfOk x (Makes a b w signed f) → ((ty : IntegerType) → own.width ≡ width_of ty → w ≡ width_of (unary_result known ty))
    → ((ty : IntegerType) → own.signed ≡ ty.signed → signed ≡ (unary_result known ty).signed)
    → ((ty : IntegerType) (m : Module) (r : Reading) → own.width ≡ width_of ty → width m own.place ≡ width_of ty → f m r ≡ unary_word known ty (r.signal own.place))
    → IfOk x (OwnApplies a b own operator)
unary_arm x a b own operator known w signed f e made wide sign same =
    subst (λ (o : UnaryOperator). IfOk x (OwnApplies a b own o)) (sym e)
    (of_ok x (Makes a b w signed f) (OwnApplies a b own known) (λ out t ty. makes_applies known ty a b own out w signed f t (wide ty) (sign ty) (same ty)) made)

pub binary_arm : {E : Type 0} (x : Result Word E) (a b : List Signal) (left right : Word) (operator known : BinaryOperator) (w : ℕ) (signed : Bool) (f : Module → Reading → ℕ) → operator ≡ known
    → IfOk x (Makes a b w signed f) → ((s : IntegerType) → left.width ≡ width_of s → w ≡ width_of (binary_result known s))
    → ((s : IntegerType) → left.signed ≡ s.signed → signed ≡ (binary_result known s).signed)
    → ((s t : IntegerType) (m : Module) (r : Reading) → IsRight known s t → AreOperands m left right s t → f m r ≡ binary_word known s (r.signal left.place) (r.signal right.place))
    → IfOk x (OwnJoins a b left right operator)
binary_arm x a b left right operator known w signed f e made wide sign same =
    subst (λ (o : BinaryOperator). IfOk x (OwnJoins a b left right o)) (sym e)
    (of_ok x (Makes a b w signed f) (OwnJoins a b left right known)
    (λ out u s t i. makes_joins known s t i a b left right out w signed f u (wide s) (sign s) (λ m r is. same s t m r i is)) made)

-- a gate whose result has the type of the left operand
pub gate_arm : {E : Type 0} (x : Result Word E) (a b : List Signal) (left right : Word) (operator known : BinaryOperator) (gate : Gate) → operator ≡ known
    → IfOk x (Makes a b left.width left.signed (λ m r. binary gate (width m left.place) (r.signal left.place) (r.signal right.place)))
    → ((s : IntegerType) → binary_result known s ≡ s) → ((s : IntegerType) (n k : ℕ) → binary gate (width_of s) n k ≡ binary_word known s n k) → IfOk x (OwnJoins a b left right operator)
gate_arm x a b left right operator known gate e made own same =
    binary_arm x a b left right operator known left.width left.signed (λ m r. binary gate (width m left.place) (r.signal left.place) (r.signal right.place)) e made
    (λ s h. h ∙ ap width_of (sym (own s))) (λ s h. h ∙ ap (λ (k : IntegerType). k.signed) (sym (own s)))
    (λ s t m r i is. ap (λ w. binary gate w (r.signal left.place) (r.signal right.place)) is.wide ∙ same s (r.signal left.place) (r.signal right.place))

-- a test, which gives an int
pub test_arm : {E : Type 0} (x : Result Word E) (a b : List Signal) (left right : Word) (operator known : BinaryOperator) (f : Module → Reading → ℕ) → operator ≡ known
    → IfOk x (Makes a b 32 true f) → ((s : IntegerType) → binary_result known s ≡ truth_type)
    → ((s t : IntegerType) (m : Module) (r : Reading) → IsRight known s t → AreOperands m left right s t → f m r ≡ binary_word known s (r.signal left.place) (r.signal right.place))
    → IfOk x (OwnJoins a b left right operator)
test_arm x a b left right operator known f e made int same =
    binary_arm x a b left right operator known 32 true f e made (λ s h. ap width_of (sym (int s))) (λ s h. ap (λ (k : IntegerType). k.signed) (sym (int s))) same

pub less_is : (s : IntegerType) (signed : Bool) (w n k : ℕ) → signed ≡ s.signed → w ≡ width_of s → less_number signed w n k ≡ less_word s n k
less_is s signed w n k e f = ap (λ t. less_number t w n k) e ∙ ap (λ x. less_number s.signed x n k) f

-- the right operand of an operator that is no shift has the type of the left one
pub right_less_is : (s t : IntegerType) (m : Module) (left right : Word) (n k : ℕ) → t ≡ s → AreOperands m left right s t → less_number right.signed (width m right.place) n k ≡ less_word s n k
right_less_is s t m left right n k e is =
    less_is s right.signed (width m right.place) n k (is.signed_right ∙ ap (λ (x : IntegerType). x.signed) e) (is.wide_right ∙ ap width_of e)

pub signs_is : (s : IntegerType) (signed : Bool) (w n k : ℕ) (f g : ℕ → ℕ → ℕ → ℕ) → signed ≡ s.signed → w ≡ width_of s
    → (if signed then f w n k else g w n k) ≡ (if s.signed then f (width_of s) n k else g (width_of s) n k)
signs_is s signed w n k f g e h = ap (λ t. if t then f w n k else g w n k) e ∙ ap (λ x. if s.signed then f x n k else g x n k) h

-- ---- whole operators

pub unary_answer : {E : Type 0} (x : Result Word E) (operator : UnaryOperator) (ty : IntegerType) (a b c : List Signal) (word own : Word) → Becomes a b word ty (wrapped ty) own
    → IfOk x (OwnApplies b c own operator) → IfOk x (Becomes a c word (unary_result operator ty) (unary_total operator ty))
unary_answer x operator ty a b c word own t made =
    of_ok x (OwnApplies b c own operator) (Becomes a c word (unary_result operator ty) (unary_total operator ty)) (λ out u. unary_becomes operator ty a b c word own out t (u ty)) made

right_value : (operator : BinaryOperator) (ty : IntegerType) (y : ℤ) (t : Bool) → is_shift operator ≡ t → (if t then y else wrapped ty y) ≡ (if is_shift operator then y else wrapped ty y)
right_value operator ty y t e = ap (λ k. if k then y else wrapped ty y) (sym e)

pub right_kept : (a : List Signal) (operator : BinaryOperator) (ty : IntegerType) (right : Word) → is_shift operator ≡ true → TakesRight a a operator ty right right
right_kept a operator ty right e = record {
  grows = grows_refl a;
  shows = λ m r t y g o is. record {
    kind = t;
    is_right = λ i. absurd (cc (e, i));
    word = subst (λ (z : ℤ). IsWord m r right t z) (right_value operator ty y true e) is;
  };
}

pub right_converted : (a b : List Signal) (operator : BinaryOperator) (ty : IntegerType) (right out : Word) → is_shift operator ≡ false → Becomes a b right ty (wrapped ty) out
    → TakesRight a b operator ty right out
right_converted a b operator ty right out e u = record {
  grows = u.grows;
  shows = λ m r t y g o is. record {
    kind = ty;
    is_right = λ i. refl;
    word = subst (λ (z : ℤ). IsWord m r out ty z) (right_value operator ty y false e) (u.shows m r t y g o is);
  };
}

pub right_answer : {E : Type 0} (x : Result Word E) (a b : List Signal) (operator : BinaryOperator) (ty : IntegerType) (right : Word) → is_shift operator ≡ false
    → IfOk x (Becomes a b right ty (wrapped ty)) → IfOk x (TakesRight a b operator ty right)
right_answer x a b operator ty right e made = of_ok x (Becomes a b right ty (wrapped ty)) (TakesRight a b operator ty right) (λ out u. right_converted a b operator ty right out e u) made

binary_combines : (operator : BinaryOperator) (ty : IntegerType) (a b c d : List Signal) (left right own other out : Word) → Becomes a b left ty (wrapped ty) own
    → TakesRight b c operator ty right other → OwnJoins c d own other operator out → Combine a d left right (binary_result operator ty) (binary_total operator ty) out
binary_combines operator ty a b c d left right own other out t u v =
    let last = (v ty ty (λ i. refl)).grows in
    record {
      grows = grows_then a b d t.grows (grows_then b c d u.grows last);
      shows = λ m r s k x y g o is also.
          let later = grows_then c d m.signals last g in
          let taken = u.shows m r k y later o also in
          (v ty taken.kind taken.is_right).shows m r (wrapped ty x) (if is_shift operator then y else wrapped ty y) g o
          (t.shows m r s x (grows_then b c m.signals u.grows later) o is) taken.word;
    }

pub binary_answer : {E : Type 0} (x : Result Word E) (operator : BinaryOperator) (ty : IntegerType) (a b c d : List Signal) (left right own other : Word) → Becomes a b left ty (wrapped ty) own
    → TakesRight b c operator ty right other → IfOk x (OwnJoins c d own other operator) → IfOk x (Combine a d left right (binary_result operator ty) (binary_total operator ty))
binary_answer x operator ty a b c d left right own other t u made =
    of_ok x (OwnJoins c d own other operator) (Combine a d left right (binary_result operator ty) (binary_total operator ty))
    (λ out v. binary_combines operator ty a b c d left right own other out t u v) made
