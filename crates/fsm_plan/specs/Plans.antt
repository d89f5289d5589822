-- The plans of codes.
use Rattle.std.specs.Prelude.{◌≡◌, List, [], ◌∷◌}
use Rattle.std.specs.List.{AllByRecursion}
use Rattle.block_ir.specs.declared.code.ThreadCode.{ThreadCode}
use Rattle.block_ir.specs.declared.plan.Planned.{Planned}
use Rattle.fsm_plan.specs.Planned.{IsNumberedCode, IsPlanned}

-- THE PLANS OF CODES: for each code whose blocks have operations of 32 bits' numbers its plan, in the order of the codes
abbrev pub ArePlanned : List ThreadCode → List Planned → Type 0
ArePlanned [] [] = Unit {0}
ArePlanned (code ∷ codes) (plan ∷ plans) = (IsNumberedCode code → IsPlanned code plan) × ArePlanned codes plans
ArePlanned [] (plan ∷ plans) = ⊥
ArePlanned (code ∷ codes) [] = ⊥

-- CODES HAVE AT MOST ONE LIST OF PLANS
abbrev pub AllPlansAgree : Type 0
AllPlansAgree = (codes : List ThreadCode) (ps qs : List Planned) → AllByRecursion IsNumberedCode codes → ArePlanned codes ps → ArePlanned codes qs → ps ≡ qs
