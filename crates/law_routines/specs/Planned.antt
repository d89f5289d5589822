-- Typed code, by a right plan.
use Rattle.std.specs.Prelude.{◌≡◌, ℕ, ◌^◌, ◌<◌, Some, slice_get}
use Rattle.c_program.specs.Tree.{Program}
use Rattle.block_ir.specs.declared.block.Block.{Block}
use Rattle.block_ir.specs.declared.code.Stage.TheVariants as stage
use Rattle.block_ir.specs.declared.code.ThreadCode.{ThreadCode}
use Rattle.block_ir.specs.declared.plan.BlockPlan.{BlockPlan}
use Rattle.block_ir.specs.declared.plan.StagePlan.TheVariants as planned
use Rattle.block_ir.specs.declared.plan.Planned.{Planned}
use Rattle.code_following.specs.Typed.{IsTypedCode}
use Rattle.plan_conditions.specs.Right.{IsRightPlan}

-- the number of a block's states has 64 bits
abbrev pub PlansAreSmall : Type 0
PlansAreSmall =
    (P : Program) (f : ℕ) (code : ThreadCode) (plan : Planned) → IsTypedCode P f code → IsRightPlan code plan →
    (l : ℕ) (b : Block) (p : BlockPlan) → slice_get code.stages l ≡ Some (stage.Run b) → slice_get plan.stages l ≡ Some (planned.Run p) → p.states < 2 ^ 64
