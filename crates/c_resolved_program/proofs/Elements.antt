-- The elements of lists of which each is so.
use Rattle.std.proofs.Common.{ℕ, zero, suc, List, [], ◌∷◌}
use Rattle.std.specs.Prelude.{slice_get}
use Rattle.std.specs.List.{AllByRecursion}
use Rattle.c_resolved_program.proofs.Walks.{IfAny}

pub element_is : {A : Type 0} (Is : A → Type 0) (list : List A) (k : ℕ) → AllByRecursion Is list → IfAny Is (slice_get list k)
element_is Is [] k all = tt
element_is Is (a ∷ more) zero all = all.0
element_is Is (a ∷ more) (suc k) all = element_is Is more k all.1
