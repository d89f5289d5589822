-- A name that ends in _ and a number tells both.
use Rattle.std.proofs.Common.{◌≡◌, ℕ, ◌^◌, ◌<◌, List, [], ◌∷◌, ◌++◌, refl, sym, ap, ◌∙◌, arith}
use Rattle.std.specs.Fmt.{decimal}
use Rattle.std.specs.Str.Parse.{AllDigits, digits_value}
use Rattle.std.proofs.lemmas.Fmt.{decimal_is_IsNumeral}
use Rattle.std.proofs.lemmas.Str.Parse.{digit_from_value}
use Rattle.verilog_meaning.specs.Names.{IsMinimal, numbered, with_digits}

-- no byte is an underscore
abbrev HasNone : List ℕ → Type 0
HasNone [] = Unit {0}
HasNone (b ∷ bs) = (b ≡ 95 → ⊥) × HasNone bs

none_inside : (xs ys zs : List ℕ) → HasNone xs → xs ≡ ys ++ 95 ∷ zs → ⊥
none_inside [] [] zs h e = cc
none_inside [] (y ∷ ys) zs h e = cc
none_inside (x ∷ xs) [] zs h e = h.0 (let q : x ≡ 95 = cc in q)
none_inside (x ∷ xs) (y ∷ ys) zs h e = none_inside xs ys zs h.1 (let q : xs ≡ ys ++ 95 ∷ zs = cc in q)

split : (xs ys d e : List ℕ) → HasNone d → HasNone e → xs ++ 95 ∷ d ≡ ys ++ 95 ∷ e → (xs ≡ ys) × (d ≡ e)
split [] [] d e f g q = (refl, (let p : d ≡ e = cc in p))
split [] (y ∷ ys) d e f g q = absurd (none_inside d ys e f (let p : d ≡ ys ++ 95 ∷ e = cc in p))
split (x ∷ xs) [] d e f g q = absurd (none_inside e xs d g (let p : xs ++ 95 ∷ d ≡ e = cc in sym p))
split (x ∷ xs) (y ∷ ys) d e f g q =
    let rest = split xs ys d e f g (let p : xs ++ 95 ∷ d ≡ ys ++ 95 ∷ e = cc in p) in
    let first : x ≡ y = cc in
    (ap (λ z. z ∷ xs) first ∙ ap (λ zs. y ∷ zs) rest.0, rest.1)

all_none : (ds : List ℕ) → AllDigits 10 ds → HasNone ds
all_none [] d = tt
all_none (c ∷ cs) d = let k = digit_from_value c d.0 in ((λ e. omega (arith, k, e)), all_none cs d.1)

decimal_none : (n : ℕ) → n < 2 ^ 64 → HasNone (decimal n)
decimal_none n l = all_none (decimal n) (decimal_is_IsNumeral n l).0.1

pub numbered_tells : (xs ys : List ℕ) (n k : ℕ) → n < 2 ^ 64 → k < 2 ^ 64 → numbered xs n ≡ numbered ys k → (xs ≡ ys) × (n ≡ k)
numbered_tells xs ys n k l m e =
    let both = split xs ys (decimal n) (decimal k) (decimal_none n l) (decimal_none k m) e in
    (both.0, sym (decimal_is_IsNumeral n l).1 ∙ ap (digits_value 10) both.1 ∙ (decimal_is_IsNumeral k m).1)

-- a name that ends in _ and the digits of a number tells both
pub digits_tell : (xs ys ds : List ℕ) (k : ℕ) → k < 2 ^ 64 → IsMinimal ds → with_digits xs ds ≡ numbered ys k → (xs ≡ ys) × (ds ≡ decimal k)
digits_tell xs ys ds k l minimal e = split xs ys ds (decimal k) (all_none ds minimal.0.1) (decimal_none k l) e
