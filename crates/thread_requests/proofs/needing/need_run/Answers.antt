use Rattle.std.proofs.Common.{ℕ, Some, refl, sym, subst}
use Rattle.std.specs.Prelude.{IfOk}
use Rattle.operator_wires.proofs.MadeWords.{of_ok}
use Rattle.block_ir.specs.declared.code.Stage.TheVariants as stage
use Rattle.block_ir.specs.declared.plan.StagePlan.{StagePlan}
use Rattle.block_ir.specs.declared.plan.StagePlan.TheVariants as planned
use Rattle.thread_requests.specs.Needing.{NeedsMore, FitsStage, IsNeedOf, IsNumbered, IsThere}
use Rattle.thread_requests.proofs.Needs.{needs_idle}
use Rattle.thread_requests.proofs.needing.need_run.Goals as goal

pub returns-in-Run : goal.returns-in-Run
returns-in-Run c =
    subst (λ (p : StagePlan). IfOk c.need_block.result (λ after. (n : ℕ) → NeedsMore c.args.registers.now (FitsStage c.args.registers.now n c.args.number (Some p))
    (IsNeedOf c.args.registers.now n c.args.number (Some (stage.Run c.args.block.now)) (Some p)) c.args.wires.now.signals c.need_block.new.wires.signals c.args.need after))
    (sym c.in-Run.is) c.need_block.ensures

pub returns-in-Act : goal.returns-in-Act
returns-in-Act c =
    subst (λ (p : StagePlan). IfOk c.need_at.result (λ after. (n : ℕ) → NeedsMore c.args.registers.now (FitsStage c.args.registers.now n c.args.number (Some p))
    (IsNeedOf c.args.registers.now n c.args.number (Some (stage.Run c.args.block.now)) (Some p)) c.args.wires.now.signals c.need_at.new.wires.signals c.args.need after))
    (sym c.in-Act.is)
    (of_ok c.need_at.result
    (NeedsMore c.args.registers.now (IsNumbered c.args.registers.now c.args.number) (IsThere c.args.registers.now c.args.number) c.args.wires.now.signals
    c.need_at.new.wires.signals c.args.need)
    (λ after. (n : ℕ) → NeedsMore c.args.registers.now (FitsStage c.args.registers.now n c.args.number (Some planned.Act))
    (IsNeedOf c.args.registers.now n c.args.number (Some (stage.Run c.args.block.now)) (Some planned.Act)) c.args.wires.now.signals c.need_at.new.wires.signals
    c.args.need after)
    (λ out t n.
    needs_idle c.args.registers.now n c.args.number (stage.Run c.args.block.now) (Some planned.Act) c.args.wires.now.signals c.need_at.new.wires.signals c.args.need out
    refl t) c.need_at.ensures)
