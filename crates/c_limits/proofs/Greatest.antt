-- The greatest of the first elements of a list, with one more.
use Rattle.std.proofs.Common.{◌≡◌, ℕ, zero, suc, ◌+◌, ◌<◌, max, List, [], ◌∷◌, length, map, take, get_or, refl, ap, ◌∙◌, arith}
use Rattle.c_program.specs.Limits.{greatest}

max_swap : (a b c : ℕ) → max a (max b c) ≡ max b (max a c)
max_swap a b c = omega arith

greatest_take :
    {X Y : Type 0} (f : Y → ℕ) (g : X → Y) (xs : List X) (i : ℕ) (d : X) → i < length xs →
    greatest f (map g (take (suc i) xs)) ≡ max (f (g (get_or xs i d))) (greatest f (map g (take i xs)))
greatest_take f g [] i d l = absurd (omega arith)
greatest_take f g (x ∷ xs) zero d l = refl
greatest_take f g (x ∷ xs) (suc i) d l =
    ap (max (f (g x))) (greatest_take f g xs i d (omega arith)) ∙ max_swap (f (g x)) (f (g (get_or xs i d))) (greatest f (map g (take i xs)))

pub greatest_next :
    {X Y : Type 0} (f : Y → ℕ) (g : X → Y) (xs : List X) (i : ℕ) (d : X) → i < length xs →
    greatest f (map g (take (i + 1) xs)) ≡ max (f (g (get_or xs i d))) (greatest f (map g (take i xs)))
greatest_next f g xs i d l = let e : i + 1 ≡ suc i = omega arith in rw e (greatest_take f g xs i d l)
