use Rattle.std.proofs.Common.{◌≡◌, ℕ, length, ap, subst, arith}
use Rattle.block_datapath.proofs.OperationValues.{item_is}
use Rattle.unit_datapath.specs.Links.{LinksFirst}
use Rattle.unit_datapath.proofs.UnitLinks.{first_none, first_more}
use Rattle.unit_datapath.proofs.links.link_all.Goals as goal

pub loop-number-preserved : goal.loop-number-preserved
loop-number-preserved c =
    first_more c.args.code.now c.args.registers.now c.args.kind.now c.args.block.now c.args.plan.now c.args.end c.args.wires.now.signals c.loop-number.wires.signals
    c.link_operation.new.wires.signals c.args.inputs.now c.loop-number.inputs c.link_operation.new.inputs c.loop-number.number c.operation-item.result c.loop-number.invariant
    (item_is c.as_slice-operation-items.result.now c.args.block.now.operations c.loop-number.number c.operation-item.result c.loop-number-test.true c.operation-item.is
    c.as_slice-operation-items.ensures)
    c.in_ok-link_operation.ensures

pub loop-number-init : goal.loop-number-init
loop-number-init c =
    first_none c.args.code.now c.args.registers.now c.args.kind.now c.args.block.now c.args.plan.now c.args.end c.args.wires.now.signals c.args.inputs.now

pub returns : goal.returns
returns c =
    let same : length c.as_slice-operation-items.result.now ≡ length c.args.block.now.operations = ap length c.as_slice-operation-items.ensures in
    let all : c.loop-number.number ≡ length c.args.block.now.operations = omega arith in
    subst (λ (n : ℕ). LinksFirst c.args.code.now c.args.registers.now c.args.kind.now c.args.block.now c.args.plan.now c.args.end c.args.wires.now.signals
    c.loop-number.wires.signals
    c.args.inputs.now c.loop-number.inputs n) all c.loop-number.invariant
