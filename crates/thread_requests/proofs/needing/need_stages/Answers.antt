use Rattle.std.proofs.Common.{◌≡◌, ℕ, length, ap, subst, arith}
use Rattle.block_datapath.proofs.OperationValues.{item_is}
use Rattle.thread_requests.specs.Needing.{NeedsMore, FitStages, IsNeedOfFirst}
use Rattle.thread_requests.proofs.Needs.{stages_none, stages_more}
use Rattle.thread_requests.proofs.needing.need_stages.Goals as goal

pub loop-number-preserved : goal.loop-number-preserved
loop-number-preserved c =
    stages_more c.args.registers.now c.args.code.now c.args.planned.now c.loop-number.number c.stage-item.result c.args.wires.now.signals
    c.loop-number.wires.signals c.need_stage.new.wires.signals c.args.first c.loop-number.need c.in_ok-next.next
    (item_is c.as_slice-stage-items.result.now c.args.code.now.stages c.loop-number.number c.stage-item.result c.loop-number-test.true c.stage-item.is
    c.as_slice-stage-items.ensures)
    c.loop-number.invariant c.in_ok-next.ensures

pub loop-number-init : goal.loop-number-init
loop-number-init c = stages_none c.args.registers.now c.args.code.now c.args.planned.now c.args.wires.now.signals c.args.first

pub returns : goal.returns
returns c =
    let same : length c.as_slice-stage-items.result.now ≡ length c.args.code.now.stages = ap length c.as_slice-stage-items.ensures in
    let all : c.loop-number.number ≡ length c.args.code.now.stages = omega arith in
    subst (λ (n : ℕ). NeedsMore c.args.registers.now (FitStages c.args.registers.now c.args.code.now c.args.planned.now)
    (IsNeedOfFirst c.args.registers.now c.args.code.now c.args.planned.now n) c.args.wires.now.signals c.loop-number.wires.signals c.args.first c.loop-number.need)
    all
    c.loop-number.invariant
