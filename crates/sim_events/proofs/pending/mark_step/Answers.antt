use Rattle.std.proofs.Common.{Bool, List, true, sym, subst, slice_set}
use Rattle.sim_events.specs.Events.{AreFlagged}
use Rattle.sim_events.proofs.Flags.{flagged_both}
use Rattle.sim_events.proofs.pending.mark_step.Goals as goal

pub returns-clause-flagged : goal.returns-clause-flagged
returns-clause-flagged c =
    let old = c.args.pending.now in
    let n = c.args.number in
    subst (λ (m : List Bool). AreFlagged m c.set_mark-2.new.marks.items) (sym c.set_mark.ensures)
    (subst (λ (b : List Bool). AreFlagged (slice_set old.steps.items n true) b) (sym c.set_mark-2.ensures) (flagged_both old.steps.items old.blocks.items c.requires n))
