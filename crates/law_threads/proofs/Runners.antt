-- Whoever runs on a hardware thread is a function of the program.
use Rattle.std.specs.Prelude.{Option, Some, None, slice_get}
use Rattle.std.specs.List.{flat_map}
use Rattle.std.proofs.Common.{◌≡◌, ℕ, zero, suc, List, [], ◌∷◌, ◌++◌, replicate, refl, subst}
use Rattle.c_program.specs.declared.tree.ThreadObject.{ThreadObject}
use Rattle.c_program.specs.Tree.{Function, Program}
use Rattle.c_program.specs.Resolved.{IsResolved, IsRoutineAt}
use Rattle.c_program.specs.Weight.{hardware_routines}

module _ (P : Program) (R : IsResolved P) (f : ℕ) where
  abbrev pub IsFound : Type 0
  IsFound = (function : Function) × (slice_get P.functions f ≡ Some function)

  in_part : (l k : ℕ) (r : Option ℕ) (rest : List (Option ℕ)) → (r ≡ Some f → IsFound) → ((j : ℕ) → slice_get rest j ≡ Some (Some f) → IsFound) →
      slice_get (replicate l r ++ rest) k ≡ Some (Some f) → IsFound
  in_part zero k r rest here there e = there k e
  in_part (suc l) zero r rest here there e = here cc
  in_part (suc l) (suc k) r rest here there e = in_part l k r rest here there e

  found_in : (os : List ThreadObject) → ((x : ℕ) (o : ThreadObject) → slice_get os x ≡ Some o → o.routine ≡ Some f → IsFound) →
      (k : ℕ) → slice_get (flat_map (λ (z : ThreadObject). replicate z.length z.routine) os) k ≡ Some (Some f) → IsFound
  found_in [] each k e = absurd cc
  found_in (o ∷ os) each k e =
      in_part o.length k o.routine (flat_map (λ (z : ThreadObject). replicate z.length z.routine) os) (λ r. each 0 o refl r)
      (λ j d. found_in os (λ x p at r. each (suc x) p at r) j d) e

  routine_found : (x : ℕ) (o : ThreadObject) → slice_get P.threads x ≡ Some o → o.routine ≡ Some f → IsFound
  routine_found x o at r = go (slice_get P.functions f) refl ((R.threads x o at).routine f r)
    where
      go : (z : Option Function) → slice_get P.functions f ≡ z → IsRoutineAt z → IsFound
      go None e is = absurd is
      go (Some function) e is = (function, e)

pub runner_found : (P : Program) (R : IsResolved P) (i f : ℕ) → slice_get (hardware_routines P) i ≡ Some (Some f) → IsFound P R f
runner_found P R zero f e = (R.main.code, (let same : P.main ≡ f = cc in subst (λ k. slice_get P.functions k ≡ Some R.main.code) same R.main.found))
runner_found P R (suc i) f e = found_in P R f P.threads (routine_found P R f) i e
