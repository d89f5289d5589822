use Rattle.std.proofs.Common.{ℕ, Option, Some, length, ap}
use Rattle.operator_wires.proofs.MadeWords.{of_ok}
use Rattle.block_ir.specs.declared.code.Act.{Act}
use Rattle.block_ir.specs.declared.code.Stage.TheVariants as stage
use Rattle.block_ir.specs.declared.plan.StagePlan.{StagePlan}
use Rattle.block_datapath.specs.Moves.{meeting}
use Rattle.thread_slots.specs.Numbers.{is_wait}
use Rattle.thread_requests.specs.Needing.{NeedsMore, FitsStage, IsNeedOf, IsNumbered, IsThere}
use Rattle.thread_requests.proofs.Needs.{needs_meeting, needs_going, other_act}
use Rattle.thread_requests.proofs.needing.need_act.Goals as goal

pub returns-in-BarrierWait : goal.returns-in-BarrierWait
returns-in-BarrierWait c =
    let n = length c.args.code.now.stages in
    of_ok c.need_meeting.result
    (NeedsMore c.args.registers.now (IsNumbered c.args.registers.now (meeting n c.args.number)) (IsThere c.args.registers.now (meeting n c.args.number)) c.args.wires.now.signals
    c.need_meeting.new.wires.signals c.args.need)
    (λ after. (next : ℕ) (plan : Option StagePlan) → NeedsMore c.args.registers.now (FitsStage c.args.registers.now n c.args.number plan)
    (IsNeedOf c.args.registers.now n c.args.number (Some (stage.Act c.args.act.now next)) plan) c.args.wires.now.signals c.need_meeting.new.wires.signals c.args.need after)
    (λ out t next plan.
    needs_meeting c.args.registers.now n c.args.number c.args.act.now next plan c.args.wires.now.signals c.need_meeting.new.wires.signals c.args.need out
    (ap (λ (a : Act). is_wait (stage.Act a next)) c.in-BarrierWait.is) t) c.need_meeting.ensures

pub returns-in_default : goal.returns-in_default
returns-in_default c = λ next plan.
    needs_going c.args.registers.now (length c.args.code.now.stages) c.args.number c.args.act.now next plan c.args.wires.now.signals c.args.need
    (other_act c.args.act.now next c.in_default.not-BarrierWait)
