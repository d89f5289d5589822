-- The stages in which a thread waits forever.
use Rattle.std.specs.Prelude.{Bool, true, false, Option, Some, None}
use Rattle.block_ir.specs.declared.code.Stage.{Stage}
use Rattle.block_ir.specs.declared.code.Stage.TheVariants as stage
use Rattle.block_ir.specs.declared.plan.StagePlan.{StagePlan}
use Rattle.block_ir.specs.declared.plan.StagePlan.TheVariants as planned

-- a block without a plan of one
abbrev pub is_idle : Stage → Option StagePlan → Bool
is_idle (stage.Run b) (Some (planned.Run p)) = false
is_idle (stage.Run b) (Some planned.Act) = true
is_idle (stage.Run b) None = true
is_idle (stage.Act a next) plan = false
