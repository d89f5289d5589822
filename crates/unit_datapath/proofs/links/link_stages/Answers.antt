use Rattle.std.proofs.Common.{◌≡◌, ℕ, length, ap, subst, arith}
use Rattle.block_datapath.proofs.OperationValues.{item_is}
use Rattle.unit_datapath.specs.Links.{LinksStages}
use Rattle.unit_datapath.proofs.UnitLinks.{stages_none, stages_more}
use Rattle.unit_datapath.proofs.links.link_stages.Goals as goal

pub loop-number-preserved : goal.loop-number-preserved
loop-number-preserved c =
    stages_more c.args.code.now c.args.registers.now c.args.kind.now c.args.planned.now c.args.wires.now.signals c.loop-number.wires.signals c.link_stage.new.wires.signals
    c.args.inputs.now
    c.loop-number.inputs c.link_stage.new.inputs c.loop-number.number c.stage-item.result c.loop-number.invariant
    (item_is c.as_slice-stage-items.result.now c.args.code.now.stages c.loop-number.number c.stage-item.result c.loop-number-test.true c.stage-item.is
    c.as_slice-stage-items.ensures)
    c.in_ok-link_stage.ensures

pub loop-number-init : goal.loop-number-init
loop-number-init c = stages_none c.args.code.now c.args.registers.now c.args.kind.now c.args.planned.now c.args.wires.now.signals c.args.inputs.now

pub returns : goal.returns
returns c =
    let same : length c.as_slice-stage-items.result.now ≡ length c.args.code.now.stages = ap length c.as_slice-stage-items.ensures in
    let all : c.loop-number.number ≡ length c.args.code.now.stages = omega arith in
    subst (λ (n : ℕ). LinksStages c.args.code.now c.args.registers.now c.args.kind.now c.args.planned.now c.args.wires.now.signals c.loop-number.wires.signals c.args.inputs.now
    c.loop-number.inputs n) all c.loop-number.invariant
