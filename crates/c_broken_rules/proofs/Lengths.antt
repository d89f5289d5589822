-- The lengths of an array's dimensions, by the lengths that its declarator has.
use Rattle.std.proofs.Common.{◌≡◌, refl, sym, subst, ap, ◌∙◌, ℕ, zero, suc, ◌≤◌, true, false, List, [], ◌∷◌, length, Option, Some, None, arith, ℤ}
use Rattle.std.specs.Prelude.{nat_le, pos, negsuc}
use Rattle.std.proofs.lemmas.Bool.Decides.{nat_tests}
use Rattle.c_tree.specs.declared.expression.Expression.{Expression as ExpressionTree, out-Expression}
use Rattle.c_rules.specs.declared.constants.Constancy.{Constancy}
use Rattle.c_rules.specs.declared.constants.Constancy.TheVariants as is
use Rattle.c_rules.specs.declared.dimensions.Dimensions.{Dimensions}
use Rattle.c_rules.specs.declared.dimensions.Dimensions.TheVariants.{Scalar, One, Two, Three}
use Rattle.c_rules.specs.declared.findings.Findings.{Findings}
use Rattle.c_rules.specs.declared.names.Scope.{Scope}
use Rattle.c_rules.specs.Constants.{constancy}
use Rattle.c_rules.specs.Dimensions.{elements, inner, is_scalar, outermost, times, with_length}
use Rattle.c_rules.specs.Walks.{Outcome, Finds, pure, through, ◌>>=◌}
use Rattle.c_expressions.specs.Expressions.{looked}
use Rattle.c_resolution.specs.Locals as l
use Rattle.c_broken_rules.specs.Parts.{inner_lengths}
use Rattle.c_broken_rules.proofs.Ledgers.{given, left, turn, after_one}
use Rattle.c_broken_rules.proofs.Events.{elements_given, length_by, length_given}
use Rattle.c_broken_rules.proofs.Walks.{is_small}

pub given_pure : {A B : Type 0} (p : Finds A) (f : A → B) (found : Findings) → given ((p >>= (λ x. pure (f x))) found) ≡ f (given (p found))
given_pure p f found = ap (λ o. given o) (turn (p found) (λ x. pure (f x)))

-- ---- one length

abbrev pub length_in : ExpressionTree → ℕ
length_in v = length_given (constancy v)

number_is : (o : Option ℕ) (at : ℕ) (found : Findings) → given (l.length_of_number o at found) ≡ length_by o
number_is (Some n) at found = refl
number_is None at found = refl

from_is : (x : Constancy) (at : ℕ) (found : Findings) → given (l.length_from x at found) ≡ length_given x
unfolding l.length_from
from_is (is.Constant x) at found = number_is (l.positive x.number) at found
from_is is.Unknown at found = refl
from_is is.NotConstant at found = refl

pub length_is : (s : Scope) (v : ExpressionTree) (found : Findings) → given (l.array_length v s found) ≡ length_in v
unfolding l.array_length
length_is s v found =
    ap (λ o. given o) (turn (looked s v found) (λ _. l.length_from (constancy v) (out-Expression v).offset)) ∙ from_is (constancy v) (out-Expression v).offset (left (looked s v found))

number_most : (z : ℤ) → length_by (l.positive z) ≤ 0xffff_ffff_ffff_ffff
number_most (pos zero) = omega arith
number_most (pos (suc n)) = omega arith
number_most (negsuc n) = omega arith

given_most : (x : Constancy) → length_given x ≤ 0xffff_ffff_ffff_ffff
given_most (is.Constant x) = number_most x.number
given_most is.Unknown = omega arith
given_most is.NotConstant = omega arith

times_one : (n : ℕ) → n ≤ 0xffff_ffff_ffff_ffff → times 1 n ≡ n
times_one n most = omega arith

-- ---- all of them

-- the lengths that count
abbrev pub kept_lengths : List ExpressionTree → List ExpressionTree
kept_lengths [] = []
kept_lengths (first ∷ more) = first ∷ inner_lengths more

abbrev pub HasLengths : Dimensions → List ExpressionTree → Type 0
HasLengths Scalar [] = Unit {0}
HasLengths (One a) (x ∷ []) = a ≡ length_in x
HasLengths (Two a b) (x ∷ y ∷ []) = (a ≡ length_in x) × (b ≡ length_in y)
HasLengths (Three a b c) (x ∷ y ∷ z ∷ []) = (a ≡ length_in x) × (b ≡ length_in y) × (c ≡ length_in z)
HasLengths d list = ⊥

module _ (s : Scope) where
  abbrev step : Dimensions → ExpressionTree → Finds Dimensions
  step d v = l.next_length s d v

  -- behind one more length
  behind_one : (d : Dimensions) (v : ExpressionTree) (more kept : List ExpressionTree) (found : Findings) →
      ((f g : Findings) → HasLengths (given (through step (with_length d (given (l.array_length v s f))) more g)) kept) →
      HasLengths (given (through step d (v ∷ more) found)) kept
  behind_one d v more kept found h =
      subst (λ (o : Outcome Findings Dimensions). HasLengths (given o) kept) (sym (after_one step d v more found))
      (subst (λ e. HasLengths (given (through step e more (left (step d v found)))) kept) (sym (given_pure (l.array_length v s) (λ n. with_length d n) found))
      (h found (left (step d v found))))

  from_three : (x y z : ExpressionTree) (more : List ExpressionTree) (a b c : ℕ) (found : Findings) → a ≡ length_in x → b ≡ length_in y → c ≡ length_in z →
      HasLengths (given (through step (Three a b c) more found)) (x ∷ y ∷ z ∷ [])
  from_three x y z [] a b c found i j k = (i, j, k)
  from_three x y z (v ∷ more) a b c found i j k =
      behind_one (Three a b c) v more (x ∷ y ∷ z ∷ []) found (λ f g. from_three x y z more a b c g i j k)

  from_two : (x y : ExpressionTree) (more : List ExpressionTree) (a b : ℕ) (found : Findings) → a ≡ length_in x → b ≡ length_in y →
      HasLengths (given (through step (Two a b) more found)) (x ∷ inner_lengths (y ∷ more))
  from_two x y [] a b found i j = (i, j)
  from_two x y (v ∷ more) a b found i j =
      behind_one (Two a b) v more (x ∷ y ∷ v ∷ []) found
      (λ f g. from_three x y v more a b (given (l.array_length v s f)) g i j (length_is s v f))

  from_one : (x : ExpressionTree) (more : List ExpressionTree) (a : ℕ) (found : Findings) → a ≡ length_in x → HasLengths (given (through step (One a) more found)) (x ∷ inner_lengths more)
  from_one x [] a found i = i
  from_one x (v ∷ more) a found i =
      behind_one (One a) v more (x ∷ inner_lengths (v ∷ more)) found
      (λ f g. from_two x v more a (given (l.array_length v s f)) g i (length_is s v f))

  all_lengths : (lengths : List ExpressionTree) (found : Findings) → HasLengths (given (through step Scalar lengths found)) (kept_lengths lengths)
  all_lengths [] found = tt
  all_lengths (v ∷ more) found =
      behind_one Scalar v more (v ∷ inner_lengths more) found
      (λ f g. from_one v more (given (l.array_length v s f)) g (length_is s v f))

  pub dimensions_are : (lengths : List ExpressionTree) (found : Findings) → HasLengths (given (l.dimensions lengths s found)) (kept_lengths lengths)
  unfolding l.dimensions
  dimensions_are lengths found = all_lengths lengths found

-- ---- one dimension at most

two_small : (d : Dimensions) (x y : ExpressionTree) (more : List ExpressionTree) → HasLengths d (x ∷ y ∷ more) → is_small d ≡ false
two_small Scalar x y more h = absurd h
two_small (One a) x y more h = absurd h
two_small (Two a b) x y more h = refl
two_small (Three a b c) x y more h = refl

more_than_one : (n : ℕ) → nat_le (suc (suc n)) 1 ≡ false
more_than_one n = grind (arith, nat_tests)

second_small : (d : Dimensions) (x y : ExpressionTree) (more : List ExpressionTree) → HasLengths d (x ∷ inner_lengths (y ∷ more)) → is_small d ≡ false
second_small d x y [] h = two_small d x y [] h
second_small d x y (z ∷ more) h = two_small d x y (z ∷ []) h

one_small : (d : Dimensions) (x : ExpressionTree) → HasLengths d (x ∷ []) → is_small d ≡ true
one_small (One a) x h = refl
one_small Scalar x h = absurd h
one_small (Two a b) x h = absurd h
one_small (Three a b c) x h = absurd h

none_small : (d : Dimensions) → HasLengths d [] → is_small d ≡ true
none_small Scalar h = refl
none_small (One a) h = absurd h
none_small (Two a b) h = absurd h
none_small (Three a b c) h = absurd h

pub small_is : (d : Dimensions) (lengths : List ExpressionTree) → HasLengths d (kept_lengths lengths) → is_small d ≡ nat_le (length lengths) 1
small_is d [] h = none_small d h
small_is d (x ∷ []) h = one_small d x h
small_is d (x ∷ y ∷ more) h = second_small d x y more h ∙ sym (more_than_one (length more))

-- ---- the outermost dimension and all elements

pub no_scalar : (d : Dimensions) (first : ExpressionTree) (rest : List ExpressionTree) → HasLengths d (first ∷ rest) → is_scalar d ≡ false
no_scalar Scalar first rest h = absurd h
no_scalar (One a) first rest h = refl
no_scalar (Two a b) first rest h = refl
no_scalar (Three a b c) first rest h = refl

one_of : (a : ℕ) (x : ExpressionTree) → a ≡ length_in x → a ≡ elements_given 1 (x ∷ [])
one_of a x h = h ∙ sym (times_one (length_in x) (given_most (constancy x)))

pub outermost_is : (d : Dimensions) (first : ExpressionTree) (rest : List ExpressionTree) → HasLengths d (first ∷ rest) → outermost d ≡ elements_given 1 (first ∷ [])
outermost_is (One a) x [] h = one_of a x h
outermost_is (Two a b) x (y ∷ []) h = one_of a x h.0
outermost_is (Three a b c) x (y ∷ z ∷ []) h = one_of a x h.0
outermost_is Scalar x rest h = absurd h
outermost_is (One a) x (y ∷ rest) h = absurd h
outermost_is (Two a b) x [] h = absurd h
outermost_is (Two a b) x (y ∷ z ∷ rest) h = absurd h
outermost_is (Three a b c) x [] h = absurd h
outermost_is (Three a b c) x (y ∷ []) h = absurd h
outermost_is (Three a b c) x (y ∷ z ∷ u ∷ rest) h = absurd h

pub inner_is : (d : Dimensions) (first : ExpressionTree) (rest : List ExpressionTree) → HasLengths d (first ∷ rest) → HasLengths (inner d) rest
inner_is (One a) x [] h = tt
inner_is (Two a b) x (y ∷ []) h = h.1
inner_is (Three a b c) x (y ∷ z ∷ []) h = (h.1, h.2)
inner_is Scalar x rest h = absurd h
inner_is (One a) x (y ∷ rest) h = absurd h
inner_is (Two a b) x [] h = absurd h
inner_is (Two a b) x (y ∷ z ∷ rest) h = absurd h
inner_is (Three a b c) x [] h = absurd h
inner_is (Three a b c) x (y ∷ []) h = absurd h
inner_is (Three a b c) x (y ∷ z ∷ u ∷ rest) h = absurd h

two_of : (a b : ℕ) (x y : ExpressionTree) → a ≡ length_in x → b ≡ length_in y → times a b ≡ elements_given 1 (x ∷ y ∷ [])
two_of a b x y i j = ap (λ n. times n b) (one_of a x i) ∙ ap (times (times 1 (length_in x))) j

three_of : (a b c : ℕ) (x y z : ExpressionTree) → a ≡ length_in x → b ≡ length_in y → c ≡ length_in z → times (times a b) c ≡ elements_given 1 (x ∷ y ∷ z ∷ [])
three_of a b c x y z i j k = ap (λ n. times n c) (two_of a b x y i j) ∙ ap (times (times (times 1 (length_in x)) (length_in y))) k

pub elements_are : (d : Dimensions) (first : ExpressionTree) (rest : List ExpressionTree) → HasLengths d (first ∷ rest) → elements d ≡ elements_given 1 (first ∷ rest)
elements_are (One a) x [] h = one_of a x h
elements_are (Two a b) x (y ∷ []) h = two_of a b x y h.0 h.1
elements_are (Three a b c) x (y ∷ z ∷ []) h = three_of a b c x y z h.0 h.1 h.2
elements_are Scalar x rest h = absurd h
elements_are (One a) x (y ∷ rest) h = absurd h
elements_are (Two a b) x [] h = absurd h
elements_are (Two a b) x (y ∷ z ∷ rest) h = absurd h
elements_are (Three a b c) x [] h = absurd h
elements_are (Three a b c) x (y ∷ []) h = absurd h
elements_are (Three a b c) x (y ∷ z ∷ u ∷ rest) h = absurd h
