use Rattle.std.proofs.Common.{◌≡◌, ℕ, length, ap, subst, arith}
use Rattle.block_datapath.proofs.OperationValues.{item_is}
use Rattle.unit_datapath.specs.Counts.{IsCountOf, BlockHas}
use Rattle.unit_datapath.proofs.UnitCount.{block_none, block_more}
use Rattle.unit_datapath.proofs.counts.block_count.Goals as goal

pub loop-number-preserved : goal.loop-number-preserved
loop-number-preserved c =
    block_more c.args.operator c.args.ty c.args.block.now c.args.plan.now c.loop-number.number c.loop-number.count c.operation_count-own.result c.greater-count.result
    c.operation-item.result
    c.loop-number.invariant
    (item_is c.as_slice-operation-items.result.now c.args.block.now.operations c.loop-number.number c.operation-item.result c.loop-number-test.true c.operation-item.is
    c.as_slice-operation-items.ensures)
    c.operation_count-own.ensures c.greater-count.ensures.left c.greater-count.ensures.right c.greater-count.ensures.one

pub loop-number-init : goal.loop-number-init
loop-number-init c = block_none c.args.operator c.args.ty c.args.block.now c.args.plan.now

pub returns : goal.returns
returns c =
    let same : length c.as_slice-operation-items.result.now ≡ length c.args.block.now.operations = ap length c.as_slice-operation-items.ensures in
    let all : c.loop-number.number ≡ length c.args.block.now.operations = omega arith in
    subst (λ (n : ℕ). IsCountOf (BlockHas c.args.operator c.args.ty c.args.block.now c.args.plan.now n) c.loop-number.count) all c.loop-number.invariant
