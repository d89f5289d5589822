-- A word whose step reads only what has a lower rank does not lead to itself, where no step reads anything of a higher one.
use Rattle.std.specs.Prelude.{◌≡◌, ℕ, zero, suc, ◌+◌, ◌<◌, ◌≤◌, Bool, true, List, [], ◌∷◌, length, replicate, None, Some, slice_get, slice_index, refl}
use Rattle.std.proofs.Common.{ap, sym, ◌∙◌, subst, inl, inr, ⊎_elim, arith}
use Rattle.std.proofs.lemmas.Option.{same_Some, slice_get_within}
use Rattle.netlist.specs.declared.netlist.Module.{Module}
use Rattle.sim_values.specs.declared.settle.Step.{Step}
use Rattle.sim_values.specs.Order.{Takes, IsClear}
use Rattle.sim_layout.specs.Leads.{Leads}
use Rattle.sim_layout.specs.Leads.Leads.{Directly, Through}
use Rattle.sim_layout.specs.Ranks.{operand, AreUpTo, IsRanked, AreRanked, AreSuspects}
use Rattle.sim_layout.proofs.LeadSearch.{below_next}

-- of the words that a step reads, those before an index were looked at, and no more are
pub up_to_all : (ranks words : List ℕ) (most index : ℕ) → ((j y : ℕ) → j < index → slice_get words j ≡ Some y → slice_index ranks y ≤ most) → operand words index ≡ None → AreUpTo ranks most words
up_to_all ranks [] most index looked e y among = absurd among
up_to_all ranks (w ∷ words) most zero looked e y among = absurd cc
up_to_all ranks (w ∷ words) most (suc index) looked e y (inl same) = subst (λ z. slice_index ranks z ≤ most) (sym same) (looked 0 w (omega arith) refl)
up_to_all ranks (w ∷ words) most (suc index) looked e y (inr rest) = up_to_all ranks words most index (λ j z l at. looked (suc j) z (omega (arith, l)) at) e y rest

-- one step more is ranked, and no more words are clear
module _ (modules : List Module) (wires : List Step) (ranks : List ℕ) (old new : List Bool) (keeps : (k : ℕ) → IsClear new k → IsClear old k) where
  ranked_on : (s : Step) → IsRanked modules ranks old s → IsRanked modules ranks new s
  ranked_on s is = record { up_to = is.up_to; below = λ clear. is.below (keeps s.target clear) }

  pub ranked_more : (count : ℕ) (u : Step) → slice_get wires count ≡ Some u → AreRanked modules wires ranks old count → IsRanked modules ranks new u → AreRanked modules wires ranks new (count + 1)
  ranked_more count u here before is k s less at = ⊎_elim
      (λ l. ranked_on s (before k s l at))
      (λ (e : k ≡ count). subst (IsRanked modules ranks new) (same_Some u s (sym here ∙ ap (slice_get wires) (sym e) ∙ at)) is)
      (below_next k count less)

module _ (modules : List Module) (wires : List Step) (ranks : List ℕ) (marks : List Bool) (ranked : AreRanked modules wires ranks marks (length wires)) where
  abbrev rank : ℕ → ℕ
  rank k = slice_index ranks k

  of_step : (s : Step) → Takes wires s → IsRanked modules ranks marks s
  of_step s has = ranked has.0 s (slice_get_within wires has.0 s has.1) has.1

  no_rise : {a b : ℕ} → Leads modules wires a b → rank b ≤ rank a
  no_rise (Directly s y has among) = (of_step s has).up_to y among
  no_rise (Through a b c first rest) = (let f = no_rise first in let r = no_rise rest in omega (arith, f, r))

  falls : {a b : ℕ} → IsClear marks a → Leads modules wires a b → rank b < rank a
  falls clear (Directly s y has among) = (of_step s has).below clear y among
  falls clear (Through a b c first rest) = (let f = falls clear first in let r = no_rise rest in omega (arith, f, r))

  pub suspects_ranked : AreSuspects modules wires marks
  suspects_ranked k inside clear leads = (let f = falls clear leads in absurd (omega (arith, f)))

-- all words are marked
pub suspects_all : (modules : List Module) (wires : List Step) (n : ℕ) (marks : List Bool) → marks ≡ replicate n true → AreSuspects modules wires marks
suspects_all modules wires n marks e k inside clear leads = no_clear n k (subst (λ (xs : List Bool). k < length xs) e inside) (subst (λ (xs : List Bool). IsClear xs k) e clear)
  where
    no_clear : (n k : ℕ) → k < length (replicate n true) → IsClear (replicate n true) k → ⊥
    no_clear zero k l c = absurd (omega (arith, l))
    no_clear (suc n) zero l c = absurd cc
    no_clear (suc n) (suc k) l c = no_clear n k (omega (arith, l)) c
