use Rattle.std.proofs.Common.{◌≡◌, ℕ, length, ap, subst, arith}
use Rattle.operator_wires.proofs.MadeWords.{of_two}
use Rattle.block_datapath.specs.Chains.{TellsStage}
use Rattle.block_datapath.proofs.OperationValues.{item_is}
use Rattle.thread_asks.specs.Asking.{AsksFirst, AsksAllWired}
use Rattle.thread_asks.proofs.Asks.{asks_none, asks_more, asks_all}
use Rattle.thread_slots.proofs.Taken.{Told}
use Rattle.thread_asks.proofs.asking.ask_stages.Goals as goal

pub loop-number-preserved : goal.loop-number-preserved
loop-number-preserved c =
    asks_more c.args.globals.now c.args.spreads.now c.args.code.now c.args.registers.now c.args.caller c.args.planned.now c.args.wires.now.signals c.args.requests.now
    c.loop-number.wires.signals
    c.ask_stage.new.wires.signals c.loop-number.requests c.ask_stage.new.requests c.loop-number.number c.stage-item.result c.loop-number.invariant
    (item_is c.as_slice-stage-items.result.now c.args.code.now.stages c.loop-number.number c.stage-item.result c.loop-number-test.true c.stage-item.is
    c.as_slice-stage-items.ensures)
    c.in_ok-ask_stage.ensures

pub loop-number-init : goal.loop-number-init
loop-number-init c = asks_none c.args.globals.now c.args.spreads.now c.args.code.now c.args.registers.now c.args.caller c.args.planned.now c.args.wires.now.signals
    c.args.requests.now

pub returns : goal.returns
returns c =
    let same : length c.as_slice-stage-items.result.now ≡ length c.args.code.now.stages = ap length c.as_slice-stage-items.ensures in
    let all : c.loop-number.number ≡ length c.args.code.now.stages = omega arith in
    let first =
    subst (λ (n : ℕ). AsksFirst c.args.globals.now c.args.spreads.now c.args.code.now c.args.registers.now c.args.caller c.args.planned.now c.args.wires.now.signals
    c.loop-number.wires.signals
    c.args.requests.now c.loop-number.requests n) all c.loop-number.invariant in
    of_two c.at_stage.result (TellsStage c.loop-number.wires.signals c.at_stage.new.wires.signals c.args.registers.now c.len.result)
    (Told c.loop-number.wires.signals c.at_stage.new.wires.signals c.args.registers.now c.len.result)
    (AsksAllWired c.args.globals.now c.args.spreads.now c.args.code.now c.args.registers.now c.args.caller c.args.planned.now c.args.wires.now.signals
    c.at_stage.new.wires.signals c.args.requests.now c.loop-number.requests)
    (λ at t u.
    asks_all c.args.globals.now c.args.spreads.now c.args.code.now c.args.registers.now c.args.caller c.args.planned.now c.args.wires.now.signals c.args.requests.now
    c.loop-number.wires.signals c.at_stage.new.wires.signals c.loop-number.requests c.len.result at first c.len.ensures t u)
    c.at_stage.ensures.shows c.at_stage.ensures.wired
