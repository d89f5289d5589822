use Rattle.std.proofs.Common.{◌≡◌, Bool, Option, Some, refl, sym, subst, length}
use Rattle.std.specs.Prelude.{slice_get, OnOk}
use Rattle.std.proofs.lemmas.Result.{on_ok_weaker}
use Rattle.block_ir.specs.declared.code.Stage.{Stage}
use Rattle.block_ir.specs.declared.code.Stage.TheVariants as stage
use Rattle.block_ir.specs.declared.plan.StagePlan.{StagePlan}
use Rattle.unit_datapath.specs.Links.{HasWork, LinksStage}
use Rattle.unit_datapath.proofs.UnitLinks.{stage_empty, stage_linked, stage_idle}
use Rattle.unit_datapath.proofs.links.link_stage.Goals as goal

pub returns-then-has_work : goal.returns-then-has_work
returns-then-has_work c =
    let planned : Some c.in-Some.plan.now ≡ slice_get c.args.planned.now.stages c.args.number = (let some = c.in-Some.ensures.value in cc) in
    subst (λ (s : Stage). OnOk c.link_block.result (LinksStage c.args.code.now c.args.registers.now c.args.kind.now c.args.number s
    (slice_get c.args.planned.now.stages c.args.number)
    c.args.wires.now.signals c.link_block.new.wires.signals c.args.inputs.now c.link_block.new.inputs)) (sym c.in-Run.is)
    (subst (λ (p : Option StagePlan). OnOk c.link_block.result (LinksStage c.args.code.now c.args.registers.now c.args.kind.now c.args.number (stage.Run c.in-Run.block) p
    c.args.wires.now.signals c.link_block.new.wires.signals c.args.inputs.now c.link_block.new.inputs)) planned
    (subst (λ (p : StagePlan). OnOk c.link_block.result (LinksStage c.args.code.now c.args.registers.now c.args.kind.now c.args.number (stage.Run c.in-Run.block) (Some p)
    c.args.wires.now.signals c.link_block.new.wires.signals c.args.inputs.now c.link_block.new.inputs)) (sym c.in-Run-plan.is)
    (on_ok_weaker c.link_block.result
    (stage_linked c.args.code.now c.args.registers.now c.args.kind.now c.args.number c.in-Run.block c.in-Run-plan.plan c.args.wires.now.signals c.link_block.new.wires.signals
    c.args.inputs.now c.link_block.new.inputs)
    c.link_block.ensures)))

pub returns-else-has_work : goal.returns-else-has_work
returns-else-has_work c =
    let planned : Some c.in-Some.plan.now ≡ slice_get c.args.planned.now.stages c.args.number = (let some = c.in-Some.ensures.value in cc) in
    subst (λ (s : Stage). LinksStage c.args.code.now c.args.registers.now c.args.kind.now c.args.number s (slice_get c.args.planned.now.stages c.args.number)
    c.args.wires.now.signals c.args.wires.now.signals c.args.inputs.now c.args.inputs.now) (sym c.in-Run.is)
    (subst (λ (p : Option StagePlan). LinksStage c.args.code.now c.args.registers.now c.args.kind.now c.args.number (stage.Run c.in-Run.block) p
    c.args.wires.now.signals c.args.wires.now.signals c.args.inputs.now c.args.inputs.now) planned
    (subst (λ (p : StagePlan). LinksStage c.args.code.now c.args.registers.now c.args.kind.now c.args.number (stage.Run c.in-Run.block) (Some p)
    c.args.wires.now.signals c.args.wires.now.signals c.args.inputs.now c.args.inputs.now) (sym c.in-Run-plan.is)
    (stage_idle c.args.code.now c.args.registers.now c.args.kind.now c.args.number c.in-Run.block c.in-Run-plan.plan c.args.wires.now.signals c.args.inputs.now c.args.inputs.now refl
    (subst (λ (z : Bool). HasWork c.args.kind.now c.in-Run.block (length c.in-Run.block.operations) z) c.if-has_work.false c.has_work.ensures))))

pub returns-in-Act-plan : goal.returns-in-Act-plan
returns-in-Act-plan c =
    stage_empty c.args.code.now c.args.registers.now c.args.kind.now c.args.number c.args.stage.now
    (slice_get c.args.planned.now.stages c.args.number) c.args.wires.now.signals c.args.inputs.now
    c.args.inputs.now refl
    (λ b p e f. absurd (let act = c.in-Act-plan.is in let some = c.in-Some.ensures.value in cc))

pub returns-in-None : goal.returns-in-None
returns-in-None c =
    stage_empty c.args.code.now c.args.registers.now c.args.kind.now c.args.number c.args.stage.now
    (slice_get c.args.planned.now.stages c.args.number) c.args.wires.now.signals c.args.inputs.now
    c.args.inputs.now refl
    (λ b p e f. absurd (let none = c.in-None.ensures.value in cc))

pub returns-in-Act : goal.returns-in-Act
returns-in-Act c =
    stage_empty c.args.code.now c.args.registers.now c.args.kind.now c.args.number c.args.stage.now
    (slice_get c.args.planned.now.stages c.args.number) c.args.wires.now.signals c.args.inputs.now
    c.args.inputs.now refl
    (λ b p e f. absurd (let act = c.in-Act.is in cc))
