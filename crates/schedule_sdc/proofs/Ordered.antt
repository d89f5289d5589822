-- The same constraints in another order, and least starts that fit 64 bits.
use Rattle.std.proofs.Common.{◌≡◌, ℕ, ◌<◌, ◌^◌, List, [], ◌∷◌, get_or, arith, ℤ, ◌-ℤ◌}
use Rattle.std.specs.Prelude.{Result, Ok, Err, IfOk}
use Rattle.std.specs.declared.alloc.AllocError.{AllocError}
use Rattle.std.specs.List.{All}
use Rattle.std.specs.List.Sorted.{IsPermutation}
use Rattle.std.proofs.lemmas.List.{get_or_default}
use Rattle.std.proofs.lemmas.List.Sorted.{All-permutation, Contains-permutation, IsPermutation-sym}
use Rattle.schedule_sdc.specs.declared.constraint.Constraint.{Constraint}
use Rattle.schedule_sdc.specs.declared.constraint.Solved.{Solved}
use Rattle.schedule_sdc.specs.declared.constraint.Solved.TheVariants.{Starts, Cyclic}
use Rattle.schedule_sdc.specs.Solution.{IsWithin, Meets, IsSolution, IsLeast, FitsIfSolvable, Walks, IsPositiveCycle, IsAnswer}

module _ (n : ℕ) (list moved : List Constraint) (moves : IsPermutation list moved) where
  pub within_moved : All (IsWithin n) list → All (IsWithin n) moved
  within_moved h = All-permutation (IsWithin n) list moved moves h

  solves_moved : (t : ℕ → ℕ) → IsSolution list t → IsSolution moved t
  solves_moved t h = All-permutation (Meets t) list moved moves h

  solves_again : (t : ℕ → ℕ) → IsSolution moved t → IsSolution list t
  solves_again t h = All-permutation (Meets t) moved list (IsPermutation-sym list moved moves) h

  pub fits_moved : FitsIfSolvable n list → FitsIfSolvable n moved
  fits_moved fits = record { small = λ t solves. (let s = fits.small t (solves_again t solves) in (s.0, solves_moved s.0 s.1, s.2)) }

  pub least_again : (starts : List ℕ) → IsLeast n moved starts → IsLeast n list starts
  least_again starts h = record {
    places = h.places;
    meets = solves_again (λ i. get_or starts i 0) h.meets;
    least = λ t solves i l. h.least t (solves_moved t solves) i l;
  }

  walks_again : (p : ℕ) (rest : List ℕ) (sum : ℤ) → Walks moved p rest sum → Walks list p rest sum
  walks_again p [] sum w = w
  walks_again p (q ∷ rest) sum w = (w.0, Contains-permutation moved list w.0 (IsPermutation-sym list moved moves) w.1, w.2, w.3, walks_again q rest (sum -ℤ w.0.gap) w.4)

  cycle_again : (walk : List ℕ) → IsPositiveCycle moved walk → IsPositiveCycle list walk
  cycle_again [] h = absurd h
  cycle_again (p ∷ rest) h = (h.0, walks_again p rest h.0 h.1, h.2, h.3)

  answer_again : (solved : Solved) → IsAnswer n moved solved → IsAnswer n list solved
  answer_again (Starts starts) h = least_again starts.items h
  answer_again (Cyclic walk) h = (cycle_again walk.items h.0, λ t solves. h.1 t (solves_moved t solves))

  pub result_again : (result : Result Solved AllocError) → IfOk result (IsAnswer n moved) → IfOk result (IsAnswer n list)
  result_again (Ok solved) h = answer_again solved h
  result_again (Err e) h = h

pub least_fits : (n : ℕ) (list : List Constraint) (starts : List ℕ) → IsLeast n list starts → FitsIfSolvable n list → All (λ start. start < 2 ^ 64) starts
least_fits n list starts h fits = λ i d l. (
    let s = fits.small (λ k. get_or starts k 0) h.meets in
    let l' : i < n = omega (arith, h.places) in
    let least = h.least s.0 s.1 i l' in
    let small = s.2 i l' in
    let e : get_or starts i d ≡ get_or starts i 0 = get_or_default starts i d 0 l in
    omega arith)
