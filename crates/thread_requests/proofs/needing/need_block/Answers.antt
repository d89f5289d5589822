use Rattle.std.proofs.Common.{ℕ, Some, length}
use Rattle.operator_wires.proofs.MadeWords.{of_ok}
use Rattle.block_ir.specs.declared.code.Stage.TheVariants as stage
use Rattle.block_ir.specs.declared.plan.StagePlan.TheVariants as planned
use Rattle.thread_requests.specs.Needing.{NeedsMore, HasStates, AreTaken, FitsStage, IsNeedOf}
use Rattle.thread_requests.proofs.Needs.{needs_block}
use Rattle.thread_requests.proofs.needing.need_block.Goals as goal

pub returns : goal.returns
returns c =
    let b = c.at_stage.new.wires.signals in
    let e = c.need_reads.new.wires.signals in
    of_ok c.need_reads.result
    (NeedsMore c.args.registers.now (HasStates c.args.registers.now c.in_ok-at.at c.args.plan.now.states)
    (AreTaken c.args.registers.now c.in_ok-at.at c.args.block.now c.args.plan.now (length c.args.block.now.operations)) b e c.args.need)
    (λ after. (n : ℕ) → NeedsMore c.args.registers.now (FitsStage c.args.registers.now n c.args.number (Some (planned.Run c.args.plan.now)))
    (IsNeedOf c.args.registers.now n c.args.number (Some (stage.Run c.args.block.now)) (Some (planned.Run c.args.plan.now))) c.args.wires.now.signals e c.args.need after)
    (λ out t n.
    needs_block c.args.registers.now c.in_ok-at.at c.args.block.now c.args.plan.now n c.args.number c.args.wires.now.signals b e c.args.need out
    c.in_ok-at.ensures.shows c.in_ok-at.ensures.wired t) c.need_reads.ensures
