-- The constants that a text spells are values of their types.
use Rattle.std.proofs.Common.{◌≡◌, refl, subst, ℕ, ◌+◌, ◌≤◌, Bool, true, false, List, [], ◌∷◌, length, take, drop, Option, Some, None, arith}
use Rattle.std.specs.Prelude.{◌-◌, ◌^◌, ◌==◌, ◌&&◌, ◌||◌, cond, nat_le, nat_lt, pos, slice_index, option_map, if◌then◌else◌}
use Rattle.std.specs.List.{find, prefix_len}
use Rattle.std.proofs.lemmas.Bool.Decides.{nat_tests}
use Rattle.std.proofs.lemmas.Bool.{and_parts}
use Rattle.hls_ints.specs.Types.{HasType}
use Rattle.c_token.specs.declared.constant.Base.{Base}
use Rattle.c_token.specs.declared.constant.Suffix.{Suffix}
use Rattle.c_token.specs.declared.constant.Constant.TheVariants.{Typed}
use Rattle.c_token.specs.declared.constant.ConstantType.{ConstantType}
use Rattle.c_token.specs.declared.constant.ConstantType.TheVariants.{Int, Unsigned, Long, UnsignedLong}
use Rattle.c_token.specs.Spelling.{Bytes}
use Rattle.c_token.specs.Constants as t
use Rattle.c_rules.specs.Constants.{constant_type}
use Rattle.c_resolved_program.specs.Leaves.{IsValidConstant}
use Rattle.c_resolved_program.proofs.Walks.{IfAny}

pub below : (n m k : ℕ) → m + 1 ≡ k → nat_le n m ≡ true → nat_lt n k ≡ true
below n m k e h = grind (arith, nat_tests)

fits : (ty : ConstantType) (n : ℕ) → nat_le n (t.maximum ty) ≡ true → HasType (constant_type ty) (pos n)
fits Int n h = below n (2 ^ 31 - 1) (2 ^ 31) refl h
fits Unsigned n h = below n (2 ^ 32 - 1) (2 ^ 32) refl h
fits Long n h = below n (2 ^ 63 - 1) (2 ^ 63) refl h
fits UnsignedLong n h = below n (2 ^ 64 - 1) (2 ^ 64) refl h

-- ---- integers

found_at : {A : Type 0} (f : A → Bool) (x a : A) (rest : Option A) (b : Bool) → f x ≡ b → (rest ≡ Some a → f a ≡ true) → cond b (Some x) rest ≡ Some a → f a ≡ true
found_at {A} f x a rest true is later e = let same : x ≡ a = cc (e) in subst (λ (y : A). f y ≡ true) same is
found_at f x a rest false is later e = later e

found_is : {A : Type 0} (f : A → Bool) (list : List A) (a : A) → find f list ≡ Some a → f a ≡ true
found_is f [] a e = cc
found_is f (x ∷ list) a e = found_at f x a (find f list) (f x) refl (found_is f list a) e

typed_is : (types : List ConstantType) (n : ℕ) → IsValidConstant (t.typed types n)
unfolding t.typed
typed_is types n = at (find (λ ty. nat_le n (t.maximum ty)) types) refl where
  at : (o : Option ConstantType) → find (λ ty. nat_le n (t.maximum ty)) types ≡ o → IsValidConstant (t.typed_by n o)
  at None e = tt
  at (Some ty) e = fits ty n (found_is (λ ty. nat_le n (t.maximum ty)) types ty e)

with_suffix_is : (base : Base) (digits : Bytes) (s : Option Suffix) → IfAny IsValidConstant (t.with_suffix base digits s)
with_suffix_is base digits None = tt
with_suffix_is base digits (Some s) = typed_is (t.types_of base s) (t.number_from base 0 digits)

if_any : {A : Type 0} (Is : A → Type 0) (b : Bool) (o p : Option A) → (b ≡ true → IfAny Is o) → (b ≡ false → IfAny Is p) → IfAny Is (if b then o else p)
if_any Is true o p h k = h refl
if_any Is false o p h k = k refl

integer_by_is : (base : Base) (body : Bytes) → IfAny IsValidConstant (t.integer_by base body)
unfolding t.integer_by
integer_by_is base body =
    let k = prefix_len (t.is_digit base) body in
    if_any IsValidConstant (nat_lt 0 k) (t.with_suffix base (take k body) (t.suffix_of (drop k body))) None
    (λ _. with_suffix_is base (take k body) (t.suffix_of (drop k body))) (λ _. tt)

pub integer_is : (word : Bytes) → IfAny IsValidConstant (t.integer_of word)
unfolding t.integer_of
integer_is word = integer_by_is (t.base_of word) (drop (t.prefix_length (t.base_of word)) word)

-- ---- characters

plain_small : (word : Bytes) → t.is_plain_character word ≡ true → nat_le (slice_index word 1) 126 ≡ true
plain_small word h =
    let c = slice_index word 1 in
    let inner = (and_parts (length word == 3) (t.is_between_quotes word && t.is_character_byte c) h).1 in
    (and_parts (nat_le 32 c) (nat_le c 126) (and_parts (nat_le 32 c && nat_le c 126) _ (and_parts (t.is_between_quotes word) (t.is_character_byte c) inner).1).0).1

small_fits : (n : ℕ) → nat_le n 126 ≡ true → nat_le n (2 ^ 31 - 1) ≡ true
small_fits n h = wider n 126 (2 ^ 31 - 1) (omega arith) h where
  wider : (n m k : ℕ) → m ≤ k → nat_le n m ≡ true → nat_le n k ≡ true
  wider n m k le h = grind (arith, nat_tests)

quote_small : (b : ℕ) → (b == 92 || (b == 39 || b == 34)) ≡ true → nat_le b 126 ≡ true
quote_small b h = grind (arith, nat_tests)

abbrev IsLow : ℕ → Type 0
IsLow n = nat_le n 126 ≡ true

escape_is : (b : ℕ) → IfAny IsLow (t.escape_value b)
unfolding t.escape_value
escape_is b =
    if_any IsLow (b == 110) (Some 10) _ (λ _. refl)
    (λ _. if_any IsLow (b == 116) (Some 9) _ (λ _. refl)
    (λ _. if_any IsLow (b == 114) (Some 13) _ (λ _. refl)
    (λ _. if_any IsLow (b == 48) (Some 0) _ (λ _. refl)
    (λ _. if_any IsLow (b == 92 || (b == 39 || b == 34)) (Some b) None (quote_small b) (λ _. tt)))))

escaped_is : (o : Option ℕ) → IfAny IsLow o → IfAny IsValidConstant (option_map (λ n. Typed n Int) o)
escaped_is None is = tt
escaped_is (Some n) is = fits Int n (small_fits n is)

pub character_is : (word : Bytes) → IfAny IsValidConstant (t.character_of word)
unfolding t.character_of
character_is word =
    if_any IsValidConstant (t.is_plain_character word) (Some (Typed (slice_index word 1) Int)) _ (λ h. fits Int (slice_index word 1) (small_fits (slice_index word 1) (plain_small word h)))
    (λ _. if_any IsValidConstant (t.is_escaped_character word) _ None (λ _. escaped_is (t.escape_value (slice_index word 2)) (escape_is (slice_index word 2))) (λ _. tt))
