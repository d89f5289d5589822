use Rattle.std.proofs.Common.{◌≡◌, ℕ, Option, Some, None, length, refl, sym, subst}
use Rattle.std.specs.Prelude.{slice_get}
use Rattle.operator_wires.proofs.MadeWords.{of_ok}
use Rattle.block_ir.specs.declared.code.Stage.{Stage}
use Rattle.block_ir.specs.declared.code.Stage.TheVariants as stage
use Rattle.block_ir.specs.declared.plan.StagePlan.{StagePlan}
use Rattle.thread_requests.specs.Needing.{NeedsMore, FitsStage, IsNeedOf, IsNumbered, IsThere}
use Rattle.thread_requests.proofs.Needs.{needs_idle}
use Rattle.thread_requests.proofs.needing.need_stage.Goals as goal

pub returns-in-Some : goal.returns-in-Some
returns-in-Some c =
    let planned : Some c.in-Some.plan.now ≡ slice_get c.args.planned.now.stages c.args.number = (let some = c.in-Some.ensures.value in cc) in
    of_ok c.need_run.result
    (λ after. (n : ℕ) → NeedsMore c.args.registers.now (FitsStage c.args.registers.now n c.args.number (Some c.in-Some.plan.now))
    (IsNeedOf c.args.registers.now n c.args.number (Some (stage.Run c.in-Run.block)) (Some c.in-Some.plan.now)) c.args.wires.now.signals
    c.need_run.new.wires.signals c.args.need after)
    (NeedsMore c.args.registers.now (FitsStage c.args.registers.now (length c.args.code.now.stages) c.args.number (slice_get c.args.planned.now.stages c.args.number))
    (IsNeedOf c.args.registers.now (length c.args.code.now.stages) c.args.number (Some c.args.stage.now) (slice_get c.args.planned.now.stages c.args.number)) c.args.wires.now.signals
    c.need_run.new.wires.signals c.args.need)
    (λ out t.
    subst (λ (s : Stage). NeedsMore c.args.registers.now (FitsStage c.args.registers.now (length c.args.code.now.stages) c.args.number (slice_get c.args.planned.now.stages c.args.number))
    (IsNeedOf c.args.registers.now (length c.args.code.now.stages) c.args.number (Some s) (slice_get c.args.planned.now.stages c.args.number)) c.args.wires.now.signals
    c.need_run.new.wires.signals c.args.need out) (sym c.in-Run.is)
    (subst (λ (p : Option StagePlan). NeedsMore c.args.registers.now (FitsStage c.args.registers.now (length c.args.code.now.stages) c.args.number p)
    (IsNeedOf c.args.registers.now (length c.args.code.now.stages) c.args.number (Some (stage.Run c.in-Run.block)) p) c.args.wires.now.signals c.need_run.new.wires.signals c.args.need out) planned
    (t (length c.args.code.now.stages))))
    c.need_run.ensures

pub returns-in-None : goal.returns-in-None
returns-in-None c =
    let planned : None ≡ slice_get c.args.planned.now.stages c.args.number = (let none = c.in-None.ensures.value in cc) in
    of_ok c.need_at.result
    (NeedsMore c.args.registers.now (IsNumbered c.args.registers.now c.args.number) (IsThere c.args.registers.now c.args.number) c.args.wires.now.signals
    c.need_at.new.wires.signals c.args.need)
    (NeedsMore c.args.registers.now (FitsStage c.args.registers.now (length c.args.code.now.stages) c.args.number (slice_get c.args.planned.now.stages c.args.number))
    (IsNeedOf c.args.registers.now (length c.args.code.now.stages) c.args.number (Some c.args.stage.now) (slice_get c.args.planned.now.stages c.args.number)) c.args.wires.now.signals
    c.need_at.new.wires.signals c.args.need)
    (λ out t.
    subst (λ (s : Stage). NeedsMore c.args.registers.now (FitsStage c.args.registers.now (length c.args.code.now.stages) c.args.number (slice_get c.args.planned.now.stages c.args.number))
    (IsNeedOf c.args.registers.now (length c.args.code.now.stages) c.args.number (Some s) (slice_get c.args.planned.now.stages c.args.number)) c.args.wires.now.signals
    c.need_at.new.wires.signals c.args.need out) (sym c.in-Run.is)
    (subst (λ (p : Option StagePlan). NeedsMore c.args.registers.now (FitsStage c.args.registers.now (length c.args.code.now.stages) c.args.number p)
    (IsNeedOf c.args.registers.now (length c.args.code.now.stages) c.args.number (Some (stage.Run c.in-Run.block)) p) c.args.wires.now.signals c.need_at.new.wires.signals c.args.need out) planned
    (needs_idle c.args.registers.now (length c.args.code.now.stages) c.args.number (stage.Run c.in-Run.block) None c.args.wires.now.signals c.need_at.new.wires.signals c.args.need out refl t)))
    c.need_at.ensures

pub returns-in-Act : goal.returns-in-Act
returns-in-Act c =
    of_ok c.need_act.result
    (λ after. (next : ℕ) (plan : Option StagePlan) → NeedsMore c.args.registers.now (FitsStage c.args.registers.now (length c.args.code.now.stages) c.args.number plan)
    (IsNeedOf c.args.registers.now (length c.args.code.now.stages) c.args.number (Some (stage.Act c.in-Act.act next)) plan) c.args.wires.now.signals c.need_act.new.wires.signals c.args.need after)
    (NeedsMore c.args.registers.now (FitsStage c.args.registers.now (length c.args.code.now.stages) c.args.number (slice_get c.args.planned.now.stages c.args.number))
    (IsNeedOf c.args.registers.now (length c.args.code.now.stages) c.args.number (Some c.args.stage.now) (slice_get c.args.planned.now.stages c.args.number)) c.args.wires.now.signals
    c.need_act.new.wires.signals c.args.need)
    (λ out t.
    subst (λ (s : Stage). NeedsMore c.args.registers.now (FitsStage c.args.registers.now (length c.args.code.now.stages) c.args.number (slice_get c.args.planned.now.stages c.args.number))
    (IsNeedOf c.args.registers.now (length c.args.code.now.stages) c.args.number (Some s) (slice_get c.args.planned.now.stages c.args.number)) c.args.wires.now.signals
    c.need_act.new.wires.signals c.args.need out) (sym c.in-Act.is) (t c.in-Act.next (slice_get c.args.planned.now.stages c.args.number)))
    c.need_act.ensures
