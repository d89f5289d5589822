use Rattle.std.proofs.Common.{◌≡◌, ℕ, length, ap, subst, arith}
use Rattle.block_datapath.proofs.OperationValues.{item_is}
use Rattle.thread_asks.specs.Met.{NamesMet}
use Rattle.thread_asks.proofs.MeetingBarrier.{met_none, met_more}
use Rattle.thread_asks.proofs.met.name_met.Goals as goal

pub loop-number-init : goal.loop-number-init
loop-number-init c =
    met_none c.args.code.now c.args.registers.now c.args.wires.now.signals c.constant.new.self.signals c.in_ok-object.object c.in_ok-object.ensures.shows
    c.in_ok-object.ensures.wired

pub loop-number-preserved : goal.loop-number-preserved
loop-number-preserved c =
    met_more c.args.code.now c.args.registers.now c.loop-number.number c.stage-item.result c.args.wires.now.signals c.loop-number.wires.signals c.name_stage.new.wires.signals
    c.loop-number.object c.in_ok-next.next
    (item_is c.as_slice-stage-items.result.now c.args.code.now.stages c.loop-number.number c.stage-item.result c.loop-number-test.true c.stage-item.is
    c.as_slice-stage-items.ensures)
    c.loop-number.invariant c.in_ok-next.ensures

pub returns : goal.returns
returns c =
    let same : length c.as_slice-stage-items.result.now ≡ length c.args.code.now.stages = ap length c.as_slice-stage-items.ensures in
    let all : c.loop-number.number ≡ length c.args.code.now.stages = omega arith in
    subst (λ (n : ℕ). NamesMet c.args.code.now c.args.registers.now n c.args.wires.now.signals c.loop-number.wires.signals c.loop-number.object) all c.loop-number.invariant
