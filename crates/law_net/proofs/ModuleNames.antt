-- The modules of threads have names of their own.
use Rattle.std.proofs.Common.{◌≡◌, ℕ, ◌<◌, List, ◌∷◌, length, codes, refl, sym, ap, ◌∙◌, arith}
use Rattle.std.specs.Prelude.{slice_get}
use Rattle.lists.proofs.Places.{get_there}
use Rattle.c_program.specs.Tree.{Function, Program}
use Rattle.c_program.specs.Resolved.{IsResolved}
use Rattle.core_tables.specs.Whole.{IsThreadName, OfFunction, OfIdle}
use Rattle.law_net.proofs.NamesApart.{names_apart}
use Rattle.program_modules.specs.Numbers.{name_if, module_name, function_module}

behind_stem : (xs ys : List ℕ) → module_name xs ≡ module_name ys → xs ≡ ys
behind_stem xs ys e = tail_same (tail_same (tail_same e))
  where
    tail_same : {x y : ℕ} {xs ys : List ℕ} → x ∷ xs ≡ y ∷ ys → xs ≡ ys
    tail_same e = cc

-- functions whose modules have one name are one
pub same_function : (P : Program) → IsResolved P → (f g : ℕ) → f < length P.functions → g < length P.functions → function_module P f ≡ function_module P g → f ≡ g
same_function P R f g l h e =
    let x = get_there P.functions f l in
    let y = get_there P.functions g h in
    names_apart (λ (h : Function). h.name) P.functions R.function_names f g x.0 y.0 x.1 y.1
    (ap name_if (sym x.1) ∙ behind_stem (name_if (slice_get P.functions f)) (name_if (slice_get P.functions g)) e ∙ ap name_if y.1)

-- and none is that of threads without a function
pub not_idle : (P : Program) (f : ℕ) → function_module P f ≡ codes "idle" → ⊥
not_idle P f e = let bad : 102 ≡ 105 = first_same e in omega (arith, bad)
  where
    first_same : {x y : ℕ} {xs ys : List ℕ} → x ∷ xs ≡ y ∷ ys → x ≡ y
    first_same e = cc

pub function_named : (P : Program) (f : ℕ) → IsThreadName (function_module P f)
function_named P f = OfFunction (name_if (slice_get P.functions f)) refl

pub idle_named : IsThreadName (codes "idle")
idle_named = OfIdle refl
