-- The number of threads as a token.
use Rattle.std.proofs.Common.{◌≡◌, ℕ, zero, suc, ◌+◌, ◌-◌, ◌<◌, ◌≤◌, List, [], ◌∷◌, ◌++◌, length, Option, Some, None, Bool, true, false, refl}
use Rattle.std.proofs.Common.{ap, subst, append_assoc, inl, inr, arith}
use Rattle.std.specs.Prelude.{◌⊎◌, ◌&&◌, nat_eq, nat_le, decimal, option_map}
use Rattle.std.specs.Fmt.{digits}
use Rattle.std.specs.List.{list_all}
use Rattle.std.proofs.lemmas.Bool.{and_parts, leb-true, eqb-true, cases_lt}
use Rattle.c_token.specs.declared.constant.ConstantType.TheVariants.{Int, Unsigned, Long, UnsignedLong}
use Rattle.c_token.specs.declared.constant.Constant.{Constant}
use Rattle.c_token.specs.declared.constant.Constant.TheVariants.{Typed, TooLarge}
use Rattle.c_token.specs.declared.token.Kind.TheVariants as kind
use Rattle.c_token.specs.Spelling.{Bytes}
use Rattle.c_token.specs.Constants.{integer_of, integer_by, suffix_of, typed, number_from}
use Rattle.c_lexer.specs.declared.lexeme.Class.{Class}
use Rattle.c_lexer.specs.declared.lexeme.Class.TheVariants as c
use Rattle.c_lexer.specs.declared.lexeme.Run.TheVariants as r
use Rattle.c_lexer.specs.declared.meaning.Mode.TheVariants.{InLine}
use Rattle.c_lexer.specs.declared.meaning.Action.TheVariants as action
use Rattle.c_lexer.specs.Lexemes.{class_at, goes_on, GoesOver, is_number_byte}
use Rattle.c_lexer.specs.Meaning.{State, effect_of, token_of, gives}
use Rattle.c_lexer.specs.Texts.{Piece}
use Rattle.generated_profile.proofs.Running.{Lexes}
use Rattle.generated_profile.proofs.Pieces.{in_line, number}

-- ---- what is computed for each of some numbers

abbrev all_under : ℕ → (ℕ → Bool) → Bool
all_under zero test = true
all_under (suc n) test = test n && all_under n test

at_or_before : (n : ℕ) (test : ℕ → Bool) (i : ℕ) → i < suc n → test n ≡ true → (i < n → test i ≡ true) → (i < n) ⊎ (n ≤ i) → test i ≡ true
at_or_before n test i l e before (inl less) = before less
at_or_before n test i l e before (inr more) = let same : n ≡ i = omega (arith, l, more) in subst (λ k. test k ≡ true) same e

under : (n : ℕ) (test : ℕ → Bool) → all_under n test ≡ true → (i : ℕ) → i < n → test i ≡ true
under zero test e i l = absurd (omega (arith, l))
under (suc n) test e i l =
    let p = and_parts (test n) (all_under n test) e in
    at_or_before n test i l p.0 (λ less. under n test p.1 i less) (cases_lt i n)

-- ---- the spelling of a number

abbrev is_digit_byte : ℕ → Bool
is_digit_byte b = nat_le 48 b && nat_le b 57

abbrev is_int : Option Constant → ℕ → Bool
is_int (Some (Typed n Int)) m = nat_eq n m
is_int other m = false

int_of : (o : Option Constant) (m : ℕ) → is_int o m ≡ true → o ≡ Some (Typed m Int)
int_of None m h = cc
int_of (Some TooLarge) m h = cc
int_of (Some (Typed n Int)) m h = ap (λ k. Some (Typed k Int)) (eqb-true n m h)
int_of (Some (Typed n Unsigned)) m h = cc
int_of (Some (Typed n Long)) m h = cc
int_of (Some (Typed n UnsignedLong)) m h = cc

abbrev begins_with_digit : Bytes → Bool
begins_with_digit [] = false
begins_with_digit (b ∷ z) = is_digit_byte b

abbrev is_spelled : ℕ → Bool
is_spelled t =
    begins_with_digit (decimal t)
    && (list_all is_digit_byte (decimal t) && (is_int (integer_of (decimal t)) t && nat_le (length (decimal t)) 2))

all_spelled : all_under 64 is_spelled ≡ true
unfolding digits integer_of integer_by suffix_of typed number_from
all_spelled = refl

record IsSpelled (t : ℕ) : Type 0 where
  begins : begins_with_digit (decimal t) ≡ true
  all : list_all is_digit_byte (decimal t) ≡ true
  int : integer_of (decimal t) ≡ Some (Typed t Int)
  short : length (decimal t) ≤ 2

spelled : (t : ℕ) → t ≤ 63 → IsSpelled t
spelled t most =
    let less : t < 64 = omega (arith, most) in
    let short : Bool = nat_le (length (decimal t)) 2 in
    let int : Bool = is_int (integer_of (decimal t)) t in
    let all : Bool = list_all is_digit_byte (decimal t) in
    let first = and_parts (begins_with_digit (decimal t)) (all && (int && short)) (under 64 is_spelled all_spelled t less) in
    let second = and_parts all (int && short) first.1 in
    let third = and_parts int short second.1 in
    record {
      begins = first.0;
      all = second.0;
      int = int_of (integer_of (decimal t)) t third.0;
      short = leb-true (length (decimal t)) 2 third.1;
    }

pub decimal_short : (t : ℕ) → t ≤ 63 → length (decimal t) ≤ 2
decimal_short t most = (spelled t most).short

-- ---- its class

abbrev is_number_class : Option Class → Bool
is_number_class (Some c.Number) = true
is_number_class other = false

number_class : (o : Option Class) → is_number_class o ≡ true → o ≡ Some c.Number
number_class None h = cc
number_class (Some c.Blank) h = cc
number_class (Some c.LineFeed) h = cc
number_class (Some c.Hash) h = cc
number_class (Some c.Word) h = cc
number_class (Some c.Number) h = refl
number_class (Some c.LineComment) h = cc
number_class (Some c.BlockComment) h = cc
number_class (Some c.Character) h = cc
number_class (Some c.Text) h = cc
number_class (Some (c.Header close)) h = cc
number_class (Some (c.Mark m)) h = cc

all_numbers : (z : Bytes) → all_under 10 (λ k. is_number_class (class_at false ((48 + k) ∷ z))) ≡ true
unfolding class_at
all_numbers z = refl

class_of_digit : (b : ℕ) (z : Bytes) → is_digit_byte b ≡ true → class_at false (b ∷ z) ≡ Some c.Number
class_of_digit b z h =
    let range = and_parts (nat_le 48 b) (nat_le b 57) h in
    let low = leb-true 48 b range.0 in
    let high = leb-true b 57 range.1 in
    let less : b - 48 < 10 = omega (arith, low, high) in
    let same : 48 + (b - 48) ≡ b = omega (arith, low) in
    number_class (class_at false (b ∷ z))
    (subst (λ d. is_number_class (class_at false (d ∷ z)) ≡ true) same
    (under 10 (λ k. is_number_class (class_at false ((48 + k) ∷ z))) (all_numbers z) (b - 48) less))

class_of_digits : (w z : Bytes) → begins_with_digit w ≡ true → class_at false (w ++ z) ≡ Some c.Number
class_of_digits [] z h = cc
class_of_digits (b ∷ w) z h = class_of_digit b (w ++ z) h

all_number_bytes : all_under 10 (λ k. is_number_byte (48 + k)) ≡ true
all_number_bytes = refl

number_byte : (b : ℕ) → is_digit_byte b ≡ true → is_number_byte b ≡ true
number_byte b h =
    let range = and_parts (nat_le 48 b) (nat_le b 57) h in
    let low = leb-true 48 b range.0 in
    let high = leb-true b 57 range.1 in
    let less : b - 48 < 10 = omega (arith, low, high) in
    let same : 48 + (b - 48) ≡ b = omega (arith, low) in
    subst (λ d. is_number_byte d ≡ true) same (under 10 (λ k. is_number_byte (48 + k)) all_number_bytes (b - 48) less)

over_digits : (w z : Bytes) → list_all is_digit_byte w ≡ true → GoesOver r.Number w z
unfolding goes_on
over_digits [] z h = tt
over_digits (b ∷ w) z h =
    let p = and_parts (is_digit_byte b) (list_all is_digit_byte w) h in
    (number_byte b p.0, over_digits w z p.1)

ends_number : (b : ℕ) (z : Bytes) → is_number_byte b ≡ false → goes_on r.Number (b ∷ z) ≡ false
unfolding goes_on
ends_number b z h = h

number_effect : (at t : ℕ) (w : Bytes) → integer_of w ≡ Some (Typed t Int) →
    effect_of at in_line c.Number w ≡ Some (gives InLine (action.Token (kind.Constant (Typed t Int))))
unfolding effect_of token_of
number_effect at t w h = ap (λ o. option_map (λ k. gives InLine (action.Token k)) (option_map kind.Constant o)) h

-- a number, and a text that goes on with no byte of a number
pub number_then : (t : ℕ) → t ≤ 63 → (b : ℕ) (z : Bytes) {ps : List Piece} {u : State} → is_number_byte b ≡ false → Lexes in_line (b ∷ z) ps u →
    Lexes in_line (decimal t ++ (b ∷ z)) (number t ∷ ps) u
number_then t most b z {ps = ps} {u = u} ends more =
    let is : IsSpelled t = spelled t most in
    record {
      splits = λ at rest. (
        (b ∷ z) ++ rest,
        append_assoc (decimal t) (b ∷ z) rest,
        (
          (class_of_digits (decimal t) (b ∷ (z ++ rest)) is.begins, (over_digits (decimal t) (b ∷ (z ++ rest)) is.all, ends_number b (z ++ rest) ends)),
          number_effect at t (decimal t) is.int,
        ),
        more.splits (at + length (decimal t)) rest,
      );
    }
