-- Thread functions: main, and the start routines that a create names.
use Rattle.std.proofs.Common.{◌≡◌, ◌≢◌, ℕ, zero, suc, ◌<◌, ◌≤◌, true, false, List, [], ◌∷◌}
use Rattle.std.proofs.Common.{length, get_or, Option, Some, None, refl, sym, ap, ◌∙◌, subst, arith, ⊎_elim, inl, inr}
use Rattle.std.specs.Prelude.{nat_eq, slice_get, Contains, ◌⊎◌}
use Rattle.std.specs.Option.{option_eq}
use Rattle.std.specs.List.{AllByRecursion, range_with_len, list_any}
use Rattle.std.proofs.lemmas.Bool.Decides.{eqb_tells}
use Rattle.std.proofs.lemmas.List.Elements.{All-contains, Contains-append_cases, Contains-push_cases, filter_passes}
use Rattle.std.proofs.lemmas.List.Sums.{get_or-le-sum_by}
use Rattle.std.proofs.lemmas.Bool.{or_cases}
use Rattle.c_program.specs.declared.tree.ThreadObject.{ThreadObject}
use Rattle.c_program.specs.Tree.{Function, Program}
use Rattle.c_program.specs.Resolved.{IsResolved, IsRoutineAt, IsStartRoutine}
use Rattle.c_program.specs.Weight.{names_routine, is_routine, routines, thread_functions, function_weight, weight}

-- a thread function: main, or a start routine
pub record IsThreadFunction (P : Program) (r : ℕ) : Type 0 where
  pub function : Function
  pub found : slice_get P.functions r ≡ Some function
  pub kind : (r ≡ P.main) ⊎ ((r ≢ P.main) × IsStartRoutine function)

names_it : (r : ℕ) (o : Option ℕ) → option_eq nat_eq o (Some r) ≡ true → o ≡ Some r
names_it r None e = cc
names_it r (Some k) e = ap Some (⊎_elim (λ t. t.1) (λ t. absurd (let wrong : true ≡ false = sym e ∙ t.0 in cc)) (eqb_tells k r))

-- an object that has the routine
record HasObject (threads : List ThreadObject) (r : ℕ) : Type 0 where
  pub place : ℕ
  pub object : ThreadObject
  pub at : slice_get threads place ≡ Some object
  pub routine : object.routine ≡ Some r

object_next : (o : ThreadObject) (os : List ThreadObject) (r : ℕ) → HasObject os r → HasObject (o ∷ os) r
object_next o os r h = record { place = suc h.place; object = h.object; at = h.at; routine = h.routine }

object_of : (threads : List ThreadObject) (r : ℕ) → is_routine threads r ≡ true → HasObject threads r
object_of [] r e = cc
object_of (o ∷ os) r e =
    ⊎_elim (λ here. record { place = 0; object = o; at = refl; routine = names_it r o.routine here }) (λ there. object_next o os r (object_of os r there))
    (or_cases (names_routine r o) (list_any (names_routine r) os) e)

module _ (P : Program) (resolved : IsResolved P) (r : ℕ) where
  routine_function : (o : Option Function) → slice_get P.functions r ≡ o → IsRoutineAt o → IsThreadFunction P r
  routine_function None at is = absurd is
  routine_function (Some f) at is = record { function = f; found = at; kind = inr (not_main, is) }
    where
      not_main : r ≢ P.main
      not_main same =
          let both : Some f ≡ Some resolved.main.code = sym at ∙ ap (slice_get P.functions) same ∙ resolved.main.found in
          let one : f ≡ resolved.main.code = cc in
          let returns = sym is.returns ∙ ap (λ (z : Function). z.returns) one ∙ resolved.main.returns in
          cc

  main_function : r ≡ P.main → IsThreadFunction P r
  main_function same = record { function = resolved.main.code; found = ap (slice_get P.functions) same ∙ resolved.main.found; kind = inl same }

  pub thread_function : Contains (thread_functions P) r → IsThreadFunction P r
  thread_function c =
      ⊎_elim (λ first. main_function (first_is first))
      (λ rest.
      let passes = All-contains (λ x. is_routine P.threads x ≡ true) (routines P) r (filter_passes (is_routine P.threads) (range_with_len 0 (length P.functions))) rest in
      let h = object_of P.threads r passes in
      routine_function (slice_get P.functions r) refl ((resolved.threads h.place h.object h.at).routine r h.routine))
      (Contains-append_cases (P.main ∷ []) (routines P) r c)
    where
      first_is : Contains (P.main ∷ []) r → r ≡ P.main
      first_is one = ⊎_elim (λ none. absurd (let lt = none.1 in omega (arith, lt))) (λ same. sym same) (Contains-push_cases [] P.main r one)

-- what holds of each thread function holds of this one
all_at : (Q : ℕ → Type 0) (xs : List ℕ) (k d : ℕ) → AllByRecursion Q xs → k < length xs → Q (get_or xs k d)
all_at Q [] k d all lt = absurd (omega arith)
all_at Q (x ∷ xs) zero d all lt = all.0
all_at Q (x ∷ xs) (suc k) d all lt = all_at Q xs k d all.1 (omega arith)

pub holds_of : (Q : ℕ → Type 0) (xs : List ℕ) (r : ℕ) → AllByRecursion Q xs → Contains xs r → Q r
holds_of Q xs r all c = subst Q c.2 (all_at Q xs c.0 r all c.1)

-- the weight of a thread function is in the program's
pub function_weighs : (P : Program) (r : ℕ) → Contains (thread_functions P) r → function_weight P.functions r ≤ weight P
function_weighs P r c =
    let part = get_or-le-sum_by (function_weight P.functions) (thread_functions P) c.0 r c.1 in
    let same = ap (function_weight P.functions) c.2 in
    omega (arith, part, same)
