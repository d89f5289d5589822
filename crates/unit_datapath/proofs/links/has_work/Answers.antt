use Rattle.std.proofs.Common.{◌≡◌, ℕ, ◌+◌, ◌||◌, ◌∙◌, Bool, length, sym, ap, subst, arith}
use Rattle.block_datapath.proofs.OperationValues.{item_is}
use Rattle.unit_datapath.specs.Links.{HasWork}
use Rattle.unit_datapath.proofs.UnitLinks.{work_none, work_more}
use Rattle.unit_datapath.proofs.links.has_work.Goals as goal

pub loop-operation-preserved : goal.loop-operation-preserved
loop-operation-preserved c =
    subst (λ (z : Bool). HasWork c.args.kind.now c.args.block.now (c.loop-operation.operation-index + 1) z)
    (sym (c.either-found.ensures ∙ ap (λ (t : Bool). c.loop-operation.found || t) c.is_work-own.ensures))
    (work_more c.args.kind.now c.args.block.now c.loop-operation.operation-index c.operation-item.result c.loop-operation.found c.loop-operation.invariant
    (item_is c.as_slice-operation-items.result.now c.args.block.now.operations c.loop-operation.operation-index c.operation-item.result c.loop-operation-test.true
    c.operation-item.is
    c.as_slice-operation-items.ensures))

pub loop-operation-init : goal.loop-operation-init
loop-operation-init c = work_none c.args.kind.now c.args.block.now

pub returns : goal.returns
returns c =
    let same : length c.as_slice-operation-items.result.now ≡ length c.args.block.now.operations = ap length c.as_slice-operation-items.ensures in
    let all : c.loop-operation.operation-index ≡ length c.args.block.now.operations = omega arith in
    subst (λ (n : ℕ). HasWork c.args.kind.now c.args.block.now n c.loop-operation.found) all c.loop-operation.invariant
