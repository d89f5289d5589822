-- Waits more, and the steps that a chain lists.
use Rattle.std.specs.Prelude.{◌≡◌, ℕ, ◌<◌, ◌≤◌, ◌⊎◌, List, [], ◌∷◌, ◌++◌, length, Option, Some, None, option_and_then, slice_get, slice_index_or, slice_set, refl}
use Rattle.std.proofs.Common.{ap, sym, ◌∙◌, subst, inl, inr, ⊎_elim}
use Rattle.std.proofs.lemmas.List.{get_or-set_same, get_or-set_other}
use Rattle.std.proofs.lemmas.Option.{same_Some, none-some}
use Rattle.std.proofs.lemmas.Bool.{cases_eq}
use Rattle.lists.proofs.Places.{get_last}
use Rattle.sim_layout.specs.declared.waits.Wait.{Wait}
use Rattle.sim_layout.specs.Waits.{IsInChain, IsWaiting, IsListed}
use Rattle.sim_layout.specs.Waits.IsInChain.{Here, Before}
use Rattle.sim_values.proofs.Orders.{get_more}

chain_more : (chain : List Wait) (new : Wait) (k : ℕ) {o : Option ℕ} → IsInChain chain k o → IsInChain (chain ++ new ∷ []) k o
chain_more chain new k (Here w at is) = Here w (get_more chain (new ∷ []) _ w at) is
chain_more chain new k (Before w at rest) = Before w (get_more chain (new ∷ []) _ w at) (chain_more chain new k rest)

module _ (last new_last : List (Option ℕ)) (chain new_chain : List Wait) (new : Wait) (word : ℕ) (inside : word < length last)
    (before : new.before ≡ slice_index_or last word None) (chained : new_chain ≡ chain ++ new ∷ []) (set : new_last ≡ slice_set last word (Some (length chain))) where
  last_here : slice_index_or new_last word None ≡ Some (length chain)
  last_here = ap (λ l. slice_index_or l word None) set ∙ get_or-set_same last word (Some (length chain)) None inside

  new_at : slice_get new_chain (length chain) ≡ Some new
  new_at = ap (λ c. slice_get c (length chain)) chained ∙ get_last chain new

  pub waits_more : IsWaiting new_last new_chain word new.step
  waits_more = subst (IsInChain new_chain new.step) (sym last_here) (Here new new_at refl)

  pub waits_keep : (w k : ℕ) → IsWaiting last chain w k → IsWaiting new_last new_chain w k
  waits_keep w k is =
      let longer = subst (λ c. IsInChain c k (slice_index_or last w None)) (sym chained) (chain_more chain new k is) in
      ⊎_elim
      (λ (same : w ≡ word).
      let old = subst (IsInChain new_chain k) (ap (λ z. slice_index_or last z None) same ∙ sym before) longer in
      subst (IsInChain new_chain k) (sym (ap (λ z. slice_index_or new_last z None) same ∙ last_here)) (Before new new_at old))
      (λ (apart : w ≡ word → ⊥).
      subst (IsInChain new_chain k) (sym (ap (λ l. slice_index_or l w None) set ∙ get_or-set_other last word w (Some (length chain)) None apart)) longer)
      (cases_eq w word)

-- ---- the steps of a chain are listed

listed_more : (steps : List ℕ) (new from k : ℕ) → IsListed from steps k → IsListed from (steps ++ new ∷ []) k
listed_more steps new from k is = (is.0, is.1, get_more steps (new ∷ []) is.0 k is.2)

-- what is in the chain is listed, or stands further on in it
abbrev pub IsPassed : List Wait → ℕ → List ℕ → Option ℕ → Option ℕ → Type 0
IsPassed chain from looks first next = (k : ℕ) → IsInChain chain k first → IsListed from looks k ⊎ IsInChain chain k next

in_chain : (chain : List Wait) (w : Wait) (k : ℕ) {o : Option ℕ} → option_and_then (slice_get chain) o ≡ Some w → IsInChain chain k o → (w.step ≡ k) ⊎ IsInChain chain k w.before
in_chain chain w k e (Here v at is) = let same : v ≡ w = same_Some v w (sym at ∙ e) in inl (ap (λ (u : Wait). u.step) (sym same) ∙ is)
in_chain chain w k e (Before v at rest) = let same : v ≡ w = same_Some v w (sym at ∙ e) in inr (subst (λ (u : Wait). IsInChain chain k u.before) same rest)

no_chain : (chain : List Wait) (k : ℕ) {o : Option ℕ} → option_and_then (slice_get chain) o ≡ None → IsInChain chain k o → ⊥
no_chain chain k e (Here v at is) = none-some v (sym e ∙ at)
no_chain chain k e (Before v at rest) = none-some v (sym e ∙ at)

pub passed_more : (chain : List Wait) (w : Wait) (from : ℕ) (looks new : List ℕ) (first next : Option ℕ) → from ≤ length looks → option_and_then (slice_get chain) next ≡ Some w
    → new ≡ looks ++ w.step ∷ [] → IsPassed chain from looks first next → IsPassed chain from new first w.before
passed_more chain w from looks new first next long e made passed = λ k is. ⊎_elim
    (λ listed. inl (subst (λ l. IsListed from l k) (sym made) (listed_more looks w.step from k listed)))
    (λ rest. ⊎_elim
    (λ here. inl (length looks, long, ap (λ l. slice_get l (length looks)) made ∙ get_last looks w.step ∙ ap Some here))
    (λ before. inr before)
    (in_chain chain w k e rest))
    (passed k is)

pub passed_all : (chain : List Wait) (from : ℕ) (looks : List ℕ) (first next : Option ℕ) → option_and_then (slice_get chain) next ≡ None → IsPassed chain from looks first next
    → (k : ℕ) → IsInChain chain k first → IsListed from looks k
passed_all chain from looks first next e passed k is = ⊎_elim (λ listed. listed) (λ rest. absurd (no_chain chain k e rest)) (passed k is)

pub kept_more : (old looks new : List ℕ) (step : ℕ) → new ≡ looks ++ step ∷ [] → ((from k : ℕ) → IsListed from old k → IsListed from looks k) → (from k : ℕ) → IsListed from old k → IsListed from new k
kept_more old looks new step made kept from k is = subst (λ l. IsListed from l k) (sym made) (listed_more looks step from k (kept from k is))
