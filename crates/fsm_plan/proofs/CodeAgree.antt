-- A code has at most one plan.
use Rattle.std.proofs.Common.{◌≡◌, ℕ, ◌≤◌, List, [], ◌∷◌, refl, ap, subst, sym, ◌∙◌, ◌⊎◌, inl, inr, arith}
use Rattle.block_ir.specs.declared.block.Block.{Block}
use Rattle.block_ir.specs.declared.code.Stage.{Stage}
use Rattle.block_ir.specs.declared.code.Stage.TheVariants as stage
use Rattle.block_ir.specs.declared.code.ThreadCode.{ThreadCode}
use Rattle.block_ir.specs.declared.plan.BlockPlan.{BlockPlan}
use Rattle.block_ir.specs.declared.plan.StagePlan.{StagePlan}
use Rattle.block_ir.specs.declared.plan.StagePlan.TheVariants as planned
use Rattle.block_ir.specs.declared.plan.Planned.{Planned}
use Rattle.op_graph.specs.Graph.{nodes_of}
use Rattle.fsm_plan.specs.Planned.{IsGreatestLive, IsPlannedRun, IsPlannedStage, EachPlanned, StageReaches, SomeReaches, IsPlanned, PlansAgree, CodePlansAgree}
use Rattle.fsm_plan.proofs.Agree.{same_starts}

-- ---- the plans of stages

module _ (agree : PlansAgree) where
  same_stage : (n m : ℕ) (s : Stage) (p q : StagePlan) → IsPlannedStage n s p → IsPlannedStage m s q → p ≡ q
  same_stage n m (stage.Run b) (planned.Run p) (planned.Run q) x y = ap planned.Run (agree b p q x.1.plan y.1.plan)
  same_stage n m (stage.Act a next) planned.Act planned.Act x y = refl
  same_stage n m (stage.Run b) (planned.Run p) planned.Act x y = absurd y
  same_stage n m (stage.Run b) planned.Act q x y = absurd x
  same_stage n m (stage.Act a next) planned.Act (planned.Run q) x y = absurd y
  same_stage n m (stage.Act a next) (planned.Run p) q x y = absurd x

  same_stages : (n m : ℕ) (ss : List Stage) (ps qs : List StagePlan) → EachPlanned n ss ps → EachPlanned m ss qs → ps ≡ qs
  same_stages n m [] [] [] x y = refl
  same_stages n m (s ∷ ss) (p ∷ ps) (q ∷ qs) x y =
      ap (λ (z : StagePlan). z ∷ ps) (same_stage n m s p q x.0 y.0) ∙ ap (λ (z : List StagePlan). q ∷ z) (same_stages n m ss ps qs x.1 y.1)
  same_stages n m [] [] (q ∷ qs) x y = absurd y
  same_stages n m [] (p ∷ ps) qs x y = absurd x
  same_stages n m (s ∷ ss) (p ∷ ps) [] x y = absurd y
  same_stages n m (s ∷ ss) [] qs x y = absurd x

-- ---- the number of registers

-- the greatest number of values that live in one state
same_count : (b : Block) (p q : BlockPlan) (n m : ℕ) → IsPlannedRun b p n → IsPlannedRun b q m → n ≡ m
same_count b p q n m x y =
    let s = same_starts (nodes_of b.operations) x.plan.starts y.plan.starts x.plan.least y.plan.least in
    let g : IsGreatestLive b x.plan.starts m = subst (λ (z : List ℕ). IsGreatestLive b z m) (sym s) y.greatest in
    let a = x.greatest.some in
    let c = g.some in
    let d = x.greatest.most c.0 in
    let e = g.most a.0 in
    omega (arith, a.1, c.1, d, e)

served : (n m : ℕ) (s : Stage) (p q : StagePlan) → StageReaches n s p → IsPlannedStage m s q → n ≤ m
served n m (stage.Run b) (planned.Run p) (planned.Run q) x y =
    let same = same_count b p q n y.0 x y.1 in
    omega (arith, same, y.2)
served n m (stage.Run b) (planned.Run p) planned.Act x y = absurd y
served n m (stage.Run b) planned.Act q x y = absurd x
served n m (stage.Act a next) planned.Act q x y = absurd x
served n m (stage.Act a next) (planned.Run p) q x y = absurd x

all_served : (n m : ℕ) (ss : List Stage) (ps qs : List StagePlan) → SomeReaches n ss ps → EachPlanned m ss qs → n ≤ m
all_served n m [] ps qs x y = absurd x
all_served n m (s ∷ ss) [] qs x y = absurd x
all_served n m (s ∷ ss) (p ∷ ps) [] x y = absurd y
all_served n m (s ∷ ss) (p ∷ ps) (q ∷ qs) (inl x) y = served n m s p q x y.0
all_served n m (s ∷ ss) (p ∷ ps) (q ∷ qs) (inr x) y = all_served n m ss ps qs x y.1

no_more : (code : ThreadCode) (p q : Planned) → IsPlanned code p → IsPlanned code q → p.registers ≤ q.registers
no_more code p q x y = by_reached x.reached
  where
    by_reached : (p.registers ≡ 0) ⊎ SomeReaches p.registers code.stages p.stages → p.registers ≤ q.registers
    by_reached (inl none) = omega (arith, none)
    by_reached (inr some) = all_served p.registers q.registers code.stages p.stages q.stages some y.each

pub code_plans_agree : PlansAgree → CodePlansAgree
code_plans_agree agree code p q x y =
    let stages : p.stages ≡ q.stages = same_stages agree p.registers q.registers code.stages p.stages q.stages x.each y.each in
    let most = no_more code p q x y in
    let least = no_more code q p y x in
    let registers : p.registers ≡ q.registers = omega (arith, most, least) in
    λ i. record { stages = stages i; registers = registers i }
