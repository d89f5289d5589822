-- How many statements and conditions there are in a statement, one with no others being one; 1 more for what lowers a condition, or
-- the body of a switch.
use Rattle.std.proofs.Common.{◌≡◌, ℕ, zero, suc, ◌+◌, ◌-◌, ◌*◌, ◌<◌, ◌≤◌, List, [], ◌∷◌, Some, refl, ap, subst, arith}
use Rattle.std.specs.Prelude.{slice_get}
use Rattle.c_program.specs.Tree.{Statement, Function}

abbrev pub nested_size : Statement → ℕ
nested_size (Statement.Sequence first rest) = suc (nested_size first + nested_size rest)
nested_size (Statement.Block body) = suc (nested_size body)
nested_size (Statement.Truth slot condition) = suc (suc (nested_size condition))
nested_size (Statement.Both first second) = suc (nested_size first + nested_size second)
nested_size (Statement.Either first second) = suc (nested_size first + nested_size second)
nested_size (Statement.Opposite inner) = suc (nested_size inner)
nested_size (Statement.If condition consequent alternative) = suc (suc (nested_size condition + (nested_size consequent + nested_size alternative)))
nested_size (Statement.While condition body) = suc (suc (nested_size condition + nested_size body))
nested_size (Statement.DoWhile body condition) = suc (suc (suc (nested_size body + nested_size condition)))
nested_size (Statement.For first condition last body) = suc (suc (nested_size first + (nested_size condition + (nested_size last + nested_size body))))
nested_size (Statement.Switch offset ty operand body) = suc (suc (suc (nested_size body)))
nested_size statement = 1

-- in all functions
abbrev pub all_sizes : List Function → ℕ
all_sizes [] = 0
all_sizes (f ∷ fs) = nested_size f.body + all_sizes fs

pub size_among : (fs : List Function) (g : ℕ) (f : Function) → slice_get fs g ≡ Some f → nested_size f.body ≤ all_sizes fs
size_among [] g f at = absurd cc
size_among (d ∷ fs) zero f at = subst (λ (z : Function). nested_size z.body ≤ all_sizes (d ∷ fs)) (let same : d ≡ f = cc in same) (omega arith)
size_among (d ∷ fs) (suc g) f at = let rest = size_among fs g f at in omega arith

-- calls one less deep, and a body
pub measure_falls : (fs : List Function) (g d : ℕ) (f : Function) → slice_get fs g ≡ Some f → (d ≡ 0 → ⊥) → (d - 1) * suc (all_sizes fs) + nested_size f.body < d * suc (all_sizes fs)
measure_falls fs g zero f at some = absurd (some refl)
measure_falls fs g (suc d) f at some =
    let size = size_among fs g f at in
    let less : suc d - 1 ≡ d = omega arith in
    let all : suc d * suc (all_sizes fs) ≡ suc (all_sizes fs) + d * suc (all_sizes fs) = spread d (suc (all_sizes fs)) in
    let same = ap (λ n. n * suc (all_sizes fs)) less in
    omega (arith, size, all, same)
  where
    spread : (d n : ℕ) → suc d * n ≡ n + d * n
    spread d n = grind arith
