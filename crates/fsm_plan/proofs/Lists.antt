-- Lists of plans, one behind the other.
use Rattle.std.proofs.Common.{◌≡◌, ℕ, ◌+◌, ◌<◌, ◌≤◌, List, [], ◌∷◌, ◌++◌, length, get_or, take, sym, subst, ap, ◌∙◌}
use Rattle.std.proofs.lemmas.List.{take_more, take_all}
use Rattle.block_ir.specs.declared.code.ThreadCode.{ThreadCode}
use Rattle.block_ir.specs.declared.plan.Planned.{Planned}
use Rattle.fsm_plan.specs.Planned.{IsNumberedCode, IsPlanned}
use Rattle.fsm_plan.specs.Plans.{ArePlanned}

pub planned-append : (cs ds : List ThreadCode) (ps qs : List Planned) → ArePlanned cs ps → ArePlanned ds qs → ArePlanned (cs ++ ds) (ps ++ qs)
planned-append [] ds [] qs h k = k
planned-append (c ∷ cs) ds (p ∷ ps) qs h k = (h.0, planned-append cs ds ps qs h.1 k)
planned-append [] ds (p ∷ ps) qs h k = absurd h
planned-append (c ∷ cs) ds [] qs h k = absurd h

pub none_planned : (codes : List ThreadCode) (plans : List Planned) → plans ≡ [] → ArePlanned (take 0 codes) plans
none_planned [] plans e = rw e tt
none_planned (c ∷ cs) plans e = rw e tt

pub next_planned : (codes : List ThreadCode) (i : ℕ) (code : ThreadCode) (plan : Planned) (plans qs : List Planned) → i < length codes → code ≡ get_or codes i code →
    ArePlanned (take i codes) plans → (IsNumberedCode code → IsPlanned code plan) → qs ≡ plans ++ plan ∷ [] → ArePlanned (take (i + 1) codes) qs
next_planned codes i code plan plans qs l e h one f =
    let t : take (i + 1) codes ≡ take i codes ++ code ∷ [] = take_more codes i code l ∙ ap (λ (z : ThreadCode). take i codes ++ z ∷ []) (sym e) in
    rw (f, t) (planned-append (take i codes) (code ∷ []) plans (plan ∷ []) h (one, tt))

pub all_planned : (codes : List ThreadCode) (i : ℕ) (plans : List Planned) → length codes ≤ i → ArePlanned (take i codes) plans → ArePlanned codes plans
all_planned codes i plans l h = subst (λ (z : List ThreadCode). ArePlanned z plans) (take_all i codes l) h
