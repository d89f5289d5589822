use Rattle.std.proofs.Common.{◌≡◌, ℕ, length, ap, subst, arith}
use Rattle.block_datapath.proofs.OperationValues.{item_is}
use Rattle.unit_datapath.specs.Counts.{IsCountOf, CodeHas}
use Rattle.unit_datapath.proofs.UnitCount.{code_none, code_more}
use Rattle.unit_datapath.proofs.counts.unit_count.Goals as goal

pub loop-number-preserved : goal.loop-number-preserved
loop-number-preserved c =
    code_more c.args.operator c.args.ty c.args.code.now c.args.planned.now c.loop-number.number c.loop-number.count c.stage_count-own.result c.greater-count.result
    c.stage-item.result
    c.loop-number.invariant
    (item_is c.as_slice-stage-items.result.now c.args.code.now.stages c.loop-number.number c.stage-item.result c.loop-number-test.true c.stage-item.is
    c.as_slice-stage-items.ensures)
    c.stage_count-own.ensures c.greater-count.ensures.left c.greater-count.ensures.right c.greater-count.ensures.one

pub loop-number-init : goal.loop-number-init
loop-number-init c = code_none c.args.operator c.args.ty c.args.code.now c.args.planned.now

pub returns : goal.returns
returns c =
    let same : length c.as_slice-stage-items.result.now ≡ length c.args.code.now.stages = ap length c.as_slice-stage-items.ensures in
    let all : c.loop-number.number ≡ length c.args.code.now.stages = omega arith in
    subst (λ (n : ℕ). IsCountOf (CodeHas c.args.operator c.args.ty c.args.code.now c.args.planned.now n) c.loop-number.count) all c.loop-number.invariant
