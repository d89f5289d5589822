use Rattle.std.proofs.Common.{sym, subst}
use Rattle.operator_wires.proofs.MadeWords.{of_ok}
use Rattle.block_ir.specs.declared.code.Act.{Act}
use Rattle.block_ir.specs.declared.code.Stage.{Stage}
use Rattle.block_ir.specs.declared.code.Stage.TheVariants as stage
use Rattle.thread_asks.specs.Fields.{NamesObject}
use Rattle.thread_asks.specs.Met.{NamesStage}
use Rattle.thread_asks.proofs.MeetingBarrier.{meeting_named, stage_passed}
use Rattle.thread_asks.proofs.met.name_stage.Goals as goal

pub returns-in-Run : goal.returns-in-Run
returns-in-Run c =
    stage_passed c.args.code.now c.args.registers.now c.args.number c.args.stage.now c.args.wires.now.signals c.args.object
    (λ barrier next e. absurd (let is = c.in-Run.is in cc))

pub returns-in_default : goal.returns-in_default
returns-in_default c =
    stage_passed c.args.code.now c.args.registers.now c.args.number c.args.stage.now c.args.wires.now.signals c.args.object
    (λ barrier next e. c.in_default.not-BarrierWait barrier (let is = c.in-Act.is in cc))

pub returns-in_ok-at-in-BarrierWait : goal.returns-in_ok-at-in-BarrierWait
returns-in_ok-at-in-BarrierWait c =
    let barrier = c.in-BarrierWait.barrier in
    let next = c.in-Act.next in
    of_ok c.name_object.result
    (NamesObject c.args.code.now c.args.registers.now c.at_stage.new.wires.signals c.name_object.new.wires.signals c.in_ok-at-in-BarrierWait.at c.args.object barrier)
    (NamesStage c.args.code.now c.args.registers.now c.args.number c.args.stage.now c.args.wires.now.signals c.name_object.new.wires.signals c.args.object)
    (λ out t.
    subst (λ (s : Stage). NamesStage c.args.code.now c.args.registers.now c.args.number s c.args.wires.now.signals c.name_object.new.wires.signals c.args.object out)
    (sym c.in-Act.is)
    (subst (λ (a : Act). NamesStage c.args.code.now c.args.registers.now c.args.number (stage.Act a next) c.args.wires.now.signals c.name_object.new.wires.signals
    c.args.object out) (sym c.in-BarrierWait.is)
    (meeting_named c.args.code.now c.args.registers.now c.args.number c.in_ok-meeting-in-BarrierWait.meeting barrier next c.args.wires.now.signals
    c.at_stage.new.wires.signals c.name_object.new.wires.signals c.in_ok-at-in-BarrierWait.at c.args.object out c.in_ok-meeting-in-BarrierWait.ensures
    c.in_ok-at-in-BarrierWait.ensures.shows c.in_ok-at-in-BarrierWait.ensures.wired t)))
    c.name_object.ensures
