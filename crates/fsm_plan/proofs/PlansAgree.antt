-- Codes have at most one list of plans.
use Rattle.std.proofs.Common.{List, [], ◌∷◌, refl, ap, ◌∙◌}
use Rattle.block_ir.specs.declared.plan.Planned.{Planned}
use Rattle.fsm_plan.specs.Planned.{CodePlansAgree}
use Rattle.fsm_plan.specs.Plans.{AllPlansAgree}

module _ (agree : CodePlansAgree) where
  pub all_plans_agree : AllPlansAgree
  all_plans_agree [] [] [] few x y = refl
  all_plans_agree (code ∷ codes) (p ∷ ps) (q ∷ qs) few x y =
      ap (λ (z : Planned). z ∷ ps) (agree code p q (x.0 few.0) (y.0 few.0)) ∙ ap (λ (z : List Planned). q ∷ z) (all_plans_agree codes ps qs few.1 x.1 y.1)
  all_plans_agree [] [] (q ∷ qs) few x y = absurd y
  all_plans_agree [] (p ∷ ps) qs few x y = absurd x
  all_plans_agree (code ∷ codes) (p ∷ ps) [] few x y = absurd y
  all_plans_agree (code ∷ codes) [] qs few x y = absurd x
