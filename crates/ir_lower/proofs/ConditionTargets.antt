-- The label where a return leads stays one where the code goes on while a condition is lowered.
use Rattle.std.proofs.Common.{◌≡◌, ℕ, length, Option, None, ap, ◌∙◌, arith}
use Rattle.std.proofs.lemmas.Option.{slice_get_within}
use Rattle.c_program.specs.Tree.{Statement, Program}
use Rattle.code_blocks.specs.declared.truths.Note.{Note}
use Rattle.code_places.specs.declared.lowering.Lowering.{Lowering}
use Rattle.code_places.specs.declared.targets.Loop.{Loop}
use Rattle.code_places.specs.Control.{with_label, Begins, BeginsStage}
use Rattle.code_places.specs.Doing.{IsBackTarget, Relabels, Proceeds}
use Rattle.code_control.specs.Deciding.{Decides}
use Rattle.code_places.proofs.CodeGrowth.{begins_shifts, stage_shifts}
use Rattle.code_places.proofs.LabelSteps.{None_, advances_both, advances_new, labels_more}
use Rattle.code_places.proofs.OpenLabels.{begins_advance, stage_advance}
use Rattle.code_places.proofs.OpenParts.{back_after}

-- at a new label
pub labelled_target : (old labelled : Lowering) → labelled ≡ with_label old → IsBackTarget old.back old.stages → IsBackTarget labelled.back labelled.stages
labelled_target old labelled after target =
    back_after old labelled (labels_more old.stages labelled.stages (ap (λ (z : Lowering). z.stages) after)) (ap (λ (z : Lowering). z.back) after) target

pub relabelled_target : (old labelled : Lowering) → Relabels old labelled → IsBackTarget old.back old.stages → IsBackTarget labelled.back labelled.stages
relabelled_target old labelled relabels target = back_after old labelled relabels.advances relabels.shifts.grows.back target

-- at the second operand of && and ||
pub second_target : (P : Program) (d : Statement) (noted : Option Note) (next if_true if_false : ℕ) (old labelled decided begun : Lowering) → next ≡ length old.stages.labels →
    labelled ≡ with_label old → Decides P d noted if_true if_false labelled decided → Begins next decided begun → IsBackTarget old.back old.stages → IsBackTarget begun.back begun.stages
second_target P d noted next if_true if_false old labelled decided begun number after decides begins target =
    back_after old begun
    (advances_new None_ (λ other. other ≡ next) old.stages decided.stages begun.stages
    (advances_both None_ old.stages labelled.stages decided.stages (labels_more old.stages labelled.stages (ap (λ (z : Lowering). z.stages) after)) decides.advances)
    (begins_advance next decided begun begins)
    (λ other e o. absurd (let lt = slice_get_within old.stages.labels other None o in omega (arith, lt, e, number))))
    ((begins_shifts next decided begun begins).grows.back ∙ decides.grows.back ∙ ap (λ (z : Lowering). z.back) after)
    target

-- behind a cut
pub rest_target : (around : Option Loop) (old lowered staged : Lowering) → Proceeds around old lowered → BeginsStage lowered staged → IsBackTarget old.back old.stages → IsBackTarget staged.back staged.stages
rest_target around old lowered staged proceeds begins target =
    back_after old staged (advances_both None_ old.stages lowered.stages staged.stages proceeds.advances (stage_advance lowered staged begins))
    ((stage_shifts lowered staged begins).grows.back ∙ proceeds.back) target
