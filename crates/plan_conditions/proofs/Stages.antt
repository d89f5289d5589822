-- Each block of a code by a right plan has its plan.
use Rattle.std.proofs.Common.{◌≡◌, ℕ, zero, suc, ◌<◌, ◌^◌, List, [], ◌∷◌, length, Some, refl, subst}
use Rattle.std.specs.Prelude.{slice_get}
use Rattle.op_graph.specs.Block.{Block}
use Rattle.op_graph.specs.Stage.{Stage}
use Rattle.op_graph.specs.Stage.TheVariants as stage
use Rattle.op_graph.specs.BlockPlan.{BlockPlan}
use Rattle.op_graph.specs.StagePlan.{StagePlan}
use Rattle.op_graph.specs.StagePlan.TheVariants as planned
use Rattle.plan_conditions.specs.Right.{IsRight, EachRight, RightPlansAreThere}

each_at : (r : ℕ) (ss : List Stage) (ps : List StagePlan) (l : ℕ) (b : Block) → EachRight r ss ps → slice_get ss l ≡ Some (stage.Run b) → length b.operations < 2 ^ 32 →
    (p : BlockPlan) × (slice_get ps l ≡ Some (planned.Run p)) × IsRight r b p
each_at r [] ps l b each e few = absurd cc
each_at r (s ∷ ss) [] l b each e few = absurd each
each_at r (stage.Run d ∷ ss) (planned.Run p ∷ ps) zero b each e few =
    let same : d ≡ b = cc in
    (p, refl, subst (λ z. length z.operations < 2 ^ 32 → IsRight r z p) same each.0 few)
each_at r (stage.Run d ∷ ss) (planned.Act ∷ ps) zero b each e few = absurd each.0
each_at r (stage.Act a next ∷ ss) (p ∷ ps) zero b each e few = absurd cc
each_at r (s ∷ ss) (p ∷ ps) (suc l) b each e few = each_at r ss ps l b each.1 e few

pub right_plans_are_there : RightPlansAreThere
right_plans_are_there code p right l b at few = each_at p.registers code.stages p.stages l b right at few
