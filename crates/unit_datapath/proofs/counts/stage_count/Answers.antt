use Rattle.std.proofs.Common.{◌≡◌, Option, Some, refl, sym, subst, length}
use Rattle.std.specs.Prelude.{slice_get}
use Rattle.block_ir.specs.declared.code.Stage.{Stage}
use Rattle.block_ir.specs.declared.code.Stage.TheVariants as stage
use Rattle.block_ir.specs.declared.plan.StagePlan.{StagePlan}
use Rattle.unit_datapath.specs.Counts.{IsCountOf, StageHas}
use Rattle.unit_datapath.proofs.UnitCount.{stage_none, stage_counted}
use Rattle.unit_datapath.proofs.counts.stage_count.Goals as goal

pub returns-in-Run-plan : goal.returns-in-Run-plan
returns-in-Run-plan c =
    let planned : Some c.in-Some.plan.now ≡ slice_get c.args.planned.now.stages c.args.number = (let some = c.in-Some.ensures.value in cc) in
    subst (λ (s : Stage). IsCountOf (StageHas c.args.operator c.args.ty s (slice_get c.args.planned.now.stages c.args.number)) c.block_count.result) (sym c.in-Run.is)
    (subst (λ (p : Option StagePlan). IsCountOf (StageHas c.args.operator c.args.ty (stage.Run c.in-Run.block) p) c.block_count.result) planned
    (subst (λ (p : StagePlan). IsCountOf (StageHas c.args.operator c.args.ty (stage.Run c.in-Run.block) (Some p)) c.block_count.result) (sym c.in-Run-plan.is)
    (stage_counted c.args.operator c.args.ty c.in-Run.block _ c.block_count.result (length c.in-Run.block.operations) refl c.block_count.ensures)))

pub returns-in-Act-plan : goal.returns-in-Act-plan
returns-in-Act-plan c =
    stage_none c.args.operator c.args.ty c.args.stage.now (slice_get c.args.planned.now.stages c.args.number)
    (λ b p e f. absurd (let act = c.in-Act-plan.is in let some = c.in-Some.ensures.value in cc))

pub returns-in-None : goal.returns-in-None
returns-in-None c =
    stage_none c.args.operator c.args.ty c.args.stage.now (slice_get c.args.planned.now.stages c.args.number) (λ b p e f. absurd (let none = c.in-None.ensures.value in cc))

pub returns-in-Act : goal.returns-in-Act
returns-in-Act c =
    stage_none c.args.operator c.args.ty c.args.stage.now (slice_get c.args.planned.now.stages c.args.number) (λ b p e f. absurd (let act = c.in-Act.is in cc))
