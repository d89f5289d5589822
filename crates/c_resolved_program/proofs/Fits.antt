-- The locals in which statements one after another keep values.
use Rattle.std.proofs.Common.{inl, inr, ℕ, ◌<◌, ◌≤◌, List, [], ◌∷◌, arith}
use Rattle.std.specs.Prelude.{◌⊎◌}
use Rattle.std.specs.List.{AllByRecursion}
use Rattle.std.proofs.lemmas.Bool.{cases_lt}
use Rattle.c_program.specs.Tree.{Statement}
use Rattle.c_expressions.specs.Sequences.{sequence}
use Rattle.c_resolution.specs.Slots.{slots_end}
use Rattle.c_resolved_program.proofs.Maxima.{below_first, below_second}
use Rattle.c_resolved_program.proofs.Neighbours as n

more_behind : (m : ℕ) (x z : Statement) → (m < slots_end x) ⊎ (m < slots_end z) → m < slots_end (Statement.Sequence x z)
more_behind m x z (inl lt) = below_first (slots_end x) (slots_end z) m lt
more_behind m x z (inr lt) = below_second (slots_end x) (slots_end z) m lt

none_more : (m : ℕ) (list : List Statement) → (n.IsOfAny (λ x. m < slots_end x) list → ⊥) → AllByRecursion (λ x. slots_end x ≤ m) list
none_more m [] none = tt
none_more m (x ∷ list) none = (
  elim (cases_lt m (slots_end x)) [
    | inl lt ↦ absurd (none (inl lt))
    | inr le ↦ le
  ],
  none_more m list (λ any. none (inr any)),
)

no_less : (m n : ℕ) → m < n → n ≤ m → ⊥
no_less m n lt le = omega arith

pub each_fits : (m : ℕ) (list : List Statement) → slots_end (sequence list) ≤ m → AllByRecursion (λ x. slots_end x ≤ m) list
each_fits m list le =
    none_more m list (λ any. no_less m (slots_end (sequence list)) (n.sequence_keeps (λ x. m < slots_end x) (λ x z either. more_behind m x z either) list any) le)
