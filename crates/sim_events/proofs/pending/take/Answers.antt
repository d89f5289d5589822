use Rattle.std.proofs.Common.{◌+◌, ◌<◌, ◌∙◌, List, ℕ, ◌≡◌, ap, sym, subst, length, slice_index, slice_index_or, slice_set, not, false, Bool, arith}
use Rattle.std.proofs.lemmas.List.{length-map}
use Rattle.std.proofs.Math.ListN.{length-set}
use Rattle.sim_values.specs.declared.settle.Step.{Step}
use Rattle.sim_layout.specs.Running.{choice_of}
use Rattle.sim_events.specs.Events.{IsAmong, IsSettling, AreFlagged, steady}
use Rattle.sim_values.specs.Order.{IsMarked}
use Rattle.sim_events.specs.Operations.{row_of}
use Rattle.sim_events.proofs.RowSteps.{row_narrow, row_target, row_moving, row_gives}
use Rattle.sim_events.proofs.Flags.{flagged_step}
use Rattle.sim_events.proofs.PendingSteps.{each_at, settling_same, settling_changed}
use Rattle.sim_events.proofs.pending.take.Goals as goal

pub returns-then-changes-clause-settling : goal.returns-then-changes-clause-settling
returns-then-changes-clause-settling c = λ first is.
    let modules = c.args.modules.now in
    let steps = c.args.steps.now in
    let choice = choice_of c.args.choice.now in
    let words = c.args.words.now in
    let starts = c.args.starts.now in
    let ends = c.args.fanout.now.starts.items in
    let listed = c.args.fanout.now.steps.items in
    let numbers = c.args.numbers.now in
    let s = c.step_at.result.now in
    let row = c.row_at-row.result.now in
    let pending = c.args.pending.now.steps.items in
    let marks : c.set_mark.new.marks.items ≡ slice_set pending c.args.number (not (steady modules s.feed)) =
    c.set_mark.ensures ∙ ap (λ b. slice_set pending c.args.number b) (row_moving modules starts steps c.args.rows.now c.requires.rows c.args.number s row c.step_at.ensures c.row_at-row.ensures) in
    let target = row_target modules starts steps c.args.rows.now c.requires.rows c.args.number s row c.step_at.ensures c.row_at-row.ensures in
    let gives = row_gives modules starts steps c.args.rows.now c.requires.rows c.args.number s row c.step_at.ensures c.row_at-row.ensures choice numbers words (omega arith) c.evaluate-given.result c.evaluate-given.ensures in
    let inside = each_at (λ (z : Step). z.target < length numbers) steps c.args.number s c.requires.ordered.targets c.step_at.ensures in
    subst (λ (ns : List ℕ). IsSettling modules steps choice words starts ends listed first (c.args.number + 1) ns c.mark.new.pending.steps.items) (sym (c.changes.ensures.changed c.if-changes.true ∙ ap (λ t. slice_set numbers t c.evaluate-given.result) target))
    (settling_changed modules steps ends listed choice words starts first c.args.number s numbers pending c.step_at.ensures is c.evaluate-given.result c.mark.new.pending.steps.items
    c.requires.ordered inside gives (c.mark.ensures.long ∙ ap length marks)
    (λ k behind within among. c.mark.ensures.marked k behind (subst (λ (m : List Bool). k < length m) (sym marks) within) (subst (λ t. IsAmong ends listed t k) (sym target) among))
    (λ k is. c.mark.ensures.keeps k (subst (λ (m : List Bool). IsMarked m k) (sym marks) is))
    (λ k l. c.mark.ensures.before k l ∙ ap (λ (m : List Bool). slice_index_or m k false) marks))

pub returns-else-changes-clause-settling : goal.returns-else-changes-clause-settling
returns-else-changes-clause-settling c = λ first is.
    let modules = c.args.modules.now in
    let steps = c.args.steps.now in
    let choice = choice_of c.args.choice.now in
    let words = c.args.words.now in
    let starts = c.args.starts.now in
    let ends = c.args.fanout.now.starts.items in
    let listed = c.args.fanout.now.steps.items in
    let numbers = c.args.numbers.now in
    let s = c.step_at.result.now in
    let row = c.row_at-row.result.now in
    let pending = c.args.pending.now.steps.items in
    let marks : c.set_mark.new.marks.items ≡ slice_set pending c.args.number (not (steady modules s.feed)) =
    c.set_mark.ensures ∙ ap (λ b. slice_set pending c.args.number b) (row_moving modules starts steps c.args.rows.now c.requires.rows c.args.number s row c.step_at.ensures c.row_at-row.ensures) in
    let target = row_target modules starts steps c.args.rows.now c.requires.rows c.args.number s row c.step_at.ensures c.row_at-row.ensures in
    let gives = row_gives modules starts steps c.args.rows.now c.requires.rows c.args.number s row c.step_at.ensures c.row_at-row.ensures choice numbers words (omega arith) c.evaluate-given.result c.evaluate-given.ensures in
    let inside = each_at (λ (z : Step). z.target < length numbers) steps c.args.number s c.requires.ordered.targets c.step_at.ensures in
    subst (λ (m : List Bool). IsSettling modules steps choice words starts ends listed first (c.args.number + 1) c.changes.new.numbers m) (sym marks)
    (subst (λ (ns : List ℕ). IsSettling modules steps choice words starts ends listed first (c.args.number + 1) ns (slice_set pending c.args.number (not (steady modules s.feed))))
    (sym (c.changes.ensures.stays c.if-changes.false))
    (settling_same modules steps ends listed choice words starts first c.args.number s numbers pending c.step_at.ensures is
    (ap (slice_index numbers) (sym target) ∙ c.changes.ensures.same c.if-changes.false (subst (λ t. t < length numbers) (sym target) inside) ∙ gives)))

pub returns-then-changes-clause-long : goal.returns-then-changes-clause-long
returns-then-changes-clause-long c =
    ap length (c.changes.ensures.changed c.if-changes.true) ∙ length-set c.args.numbers.now c.row_at-row.result.now.target c.evaluate-given.result

pub returns-else-changes-clause-long : goal.returns-else-changes-clause-long
returns-else-changes-clause-long c = ap length (c.changes.ensures.stays c.if-changes.false)

pub evaluate-given-requires-clause-operation : goal.evaluate-given-requires-clause-operation
evaluate-given-requires-clause-operation c =
    row_narrow c.args.modules.now c.args.starts.now c.args.steps.now c.args.rows.now c.requires.rows c.args.number c.step_at.result.now c.row_at-row.result.now c.step_at.ensures c.row_at-row.ensures c.requires.narrow

pub row_at-row-requires : goal.row_at-row-requires
row_at-row-requires c =
    let long = ap length c.requires.rows ∙ length-map c.args.steps.now (row_of c.args.modules.now c.args.starts.now) in
    let inside = c.requires.number in
    omega (arith, long, inside)

pub mark-requires-clause-flagged : goal.mark-requires-clause-flagged
mark-requires-clause-flagged c =
    let pending = c.args.pending.now in
    subst (λ (m : List Bool). AreFlagged m pending.blocks.items) (sym c.set_mark.ensures)
    (flagged_step pending.steps.items pending.blocks.items c.requires.flagged c.args.number c.row_at-row.result.now.moving c.requires.marked)

pub returns-else-changes-clause-flagged : goal.returns-else-changes-clause-flagged
returns-else-changes-clause-flagged c =
    let pending = c.args.pending.now in
    subst (λ (m : List Bool). AreFlagged m pending.blocks.items) (sym c.set_mark.ensures)
    (flagged_step pending.steps.items pending.blocks.items c.requires.flagged c.args.number c.row_at-row.result.now.moving c.requires.marked)

pub returns-then-changes-clause-count : goal.returns-then-changes-clause-count
returns-then-changes-clause-count c =
    c.mark.ensures.long ∙ ap length c.set_mark.ensures ∙ length-set c.args.pending.now.steps.items c.args.number c.row_at-row.result.now.moving ∙ c.requires.count

pub returns-else-changes-clause-count : goal.returns-else-changes-clause-count
returns-else-changes-clause-count c = ap length c.set_mark.ensures ∙ length-set c.args.pending.now.steps.items c.args.number c.row_at-row.result.now.moving ∙ c.requires.count
