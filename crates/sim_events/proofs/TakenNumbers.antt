-- Numbers that are taken over one by one.
use Rattle.std.specs.Prelude.{◌≡◌, ℕ, ◌+◌, ◌<◌, List, length, slice_index, slice_set}
use Rattle.std.proofs.Common.{ap, sym, ◌∙◌, ⊎_elim, arith}
use Rattle.std.proofs.lemmas.List.{get_or-set_same, get_or-set_other}
use Rattle.sim_layout.proofs.LeadSearch.{below_next}

module _ (numbers next : List ℕ) (place : ℕ) where
  abbrev Same : List ℕ → ℕ → Type 0
  Same ns count = (y : ℕ) → y < count → slice_index ns y ≡ slice_index next y

  pub same_next : (number : ℕ) → place < length numbers → number ≡ slice_index next place → Same numbers place → Same (slice_set numbers place number) (place + 1)
  same_next number inside is before y l = ⊎_elim
      (λ less. get_or-set_other numbers place y number 0 (λ e. omega (arith, e, less)) ∙ before y less)
      (λ (e : y ≡ place). ap (slice_index (slice_set numbers place number)) e ∙ get_or-set_same numbers place number 0 inside ∙ is ∙ ap (slice_index next) (sym e))
      (below_next y place l)

  pub same_still : slice_index numbers place ≡ slice_index next place → Same numbers place → Same numbers (place + 1)
  same_still is before y l = ⊎_elim
      (λ less. before y less)
      (λ (e : y ≡ place). ap (slice_index numbers) e ∙ is ∙ ap (slice_index next) (sym e))
      (below_next y place l)
