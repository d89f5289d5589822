-- The numbers of modules, object by object.
use Rattle.std.proofs.Common.{◌≡◌, ℕ, zero, suc, Bool, true, false, nat_eq, nat_lt, if◌then◌else◌, List, [], ◌∷◌, ◌++◌, map, replicate}
use Rattle.std.proofs.Common.{Option, refl, sym, ap, ◌∙◌, arith}
use Rattle.std.specs.Prelude.{◌&&◌, ◌||◌}
use Rattle.std.specs.List.{flat_map, list_any}
use Rattle.std.proofs.lemmas.Bool.Decides.{nat_tests}
use Rattle.std.proofs.lemmas.List.{map-append}
use Rattle.std.proofs.lemmas.List.Folds.{list_any-append}
use Rattle.std.proofs.Math.Bool.{and-false}
use Rattle.c_program.specs.declared.tree.ThreadObject.{ThreadObject}
use Rattle.c_program.specs.Tree.{Program}
use Rattle.c_program.specs.Weight.{thread_functions, routines}
use Rattle.program_modules.specs.Numbers.{place_in, number_in, object_numbers, module_numbers, is_idle, is_idle_object, has_idle}

-- of copies
copies : (fs : List ℕ) (n : ℕ) (o : Option ℕ) → replicate n (number_in fs o) ≡ map (number_in fs) (replicate n o)
copies fs zero o = refl
copies fs (suc n) o = ap (λ (l : List ℕ). number_in fs o ∷ l) (copies fs n o)

abbrev threads_of : ThreadObject → List (Option ℕ)
threads_of object = replicate object.length object.routine

objects_are : (fs : List ℕ) (os : List ThreadObject) → flat_map (object_numbers fs) os ≡ map (number_in fs) (flat_map threads_of os)
objects_are fs [] = refl
objects_are fs (o ∷ os) =
    ap (λ (l : List ℕ). l ++ flat_map (object_numbers fs) os) (copies fs o.length o.routine)
    ∙ ap (λ (l : List ℕ). map (number_in fs) (threads_of o) ++ l) (objects_are fs os)
    ∙ sym (map-append (number_in fs) (threads_of o) (flat_map threads_of os))

first_is : (P : Program) → place_in (thread_functions P) P.main ≡ 0
first_is P = ap (λ (b : Bool). if b then 0 else suc (place_in (routines P) P.main)) (let e : nat_eq P.main P.main ≡ true = grind (arith, nat_tests) in e)

pub numbers_are : (P : Program) (fs : List ℕ) → fs ≡ thread_functions P → 0 ∷ flat_map (object_numbers fs) P.threads ≡ module_numbers P
numbers_are P fs e =
    ap (λ (l : List ℕ). 0 ∷ flat_map (object_numbers l) P.threads) e ∙ ap (λ (l : List ℕ). 0 ∷ l) (objects_are (thread_functions P) P.threads)
    ∙ ap (λ n. n ∷ map (number_in (thread_functions P)) (flat_map threads_of P.threads)) (sym (first_is P))

-- ---- threads without a function

idle_copies : (n : ℕ) (o : Option ℕ) → list_any is_idle (replicate n o) ≡ (is_idle o && nat_lt 0 n)
idle_copies zero o = sym (and-false (is_idle o))
idle_copies (suc n) o =
    ap (λ (b : Bool). is_idle o || b) (idle_copies n o) ∙ by (is_idle o) (nat_lt 0 n)
    ∙ ap (λ (b : Bool). is_idle o && b) (let e : true ≡ nat_lt 0 (suc n) = grind (arith, nat_tests) in e)
  where
    by : (b c : Bool) → (b || (b && c)) ≡ (b && true)
    by true c = refl
    by false c = refl

idle_objects : (os : List ThreadObject) → list_any is_idle (flat_map threads_of os) ≡ list_any is_idle_object os
idle_objects [] = refl
idle_objects (o ∷ os) =
    list_any-append is_idle (threads_of o) (flat_map threads_of os) ∙ ap (λ (b : Bool). b || list_any is_idle (flat_map threads_of os)) (idle_copies o.length o.routine)
    ∙ ap (λ (b : Bool). is_idle_object o || b) (idle_objects os)

pub idle_is : (P : Program) → has_idle P ≡ list_any is_idle_object P.threads
idle_is P = idle_objects P.threads
