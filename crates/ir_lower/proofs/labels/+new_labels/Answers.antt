use Rattle.std.proofs.Common.{◌≡◌, true, sym, ap, ◌∙◌, subst, length, arith, rules}
use Rattle.std.proofs.lemmas.Grind.{common_steps}
use Rattle.std.proofs.lemmas.Result.{on_ok_weaker}
use Rattle.c_program.specs.Plain.{statement_of}
use Rattle.c_program.specs.Tree.{Statement}
use Rattle.ir_lower.specs.Switching.{labels_of, HasLabels}
use Rattle.ir_lower.proofs.OpenSwitches.{has_none, has_one, has_both}
use Rattle.ir_lower.proofs.SwitchBodies.{labels_sum, is_single, single_labels}
use Rattle.ir_lower.proofs.labels.+new_labels.Goals as goal

pub returns-in_ok-new_labels-in-Sequence : goal.returns-in_ok-new_labels-in-Sequence
returns-in_ok-new_labels-in-Sequence t c =
    let body = statement_of c.args.body.now in
    let first = statement_of c.deref.result.now in
    let rest = statement_of c.deref-in-Sequence.result.now in
    let is =
    ap statement_of c.in-Sequence.is ∙ ap (λ z. Statement.Sequence (statement_of z) (statement_of c.in-Sequence.rest.value)) (sym c.deref.ensures)
    ∙ ap (λ z. Statement.Sequence first (statement_of z)) (sym c.deref-in-Sequence.ensures) in
    on_ok_weaker c.new_labels-in-Sequence.result
    (has_both (length (labels_of first)) (length (labels_of rest)) (length (labels_of body)) c.args.code.now c.new_labels.new.code c.new_labels-in-Sequence.new.code (labels_sum body first rest is)
    c.in_ok-new_labels-in-Sequence.ensures)
    c.new_labels-in-Sequence.ensures

pub returns-in_ok-new_label-in-Label : goal.returns-in_ok-new_label-in-Label
returns-in_ok-new_label-in-Label t c =
    subst (λ n. HasLabels n c.args.code.now c.new_label.new.self) (sym (ap (λ z. length (labels_of (statement_of z))) c.in-Label.is))
    (has_one c.in_ok-new_label-in-Label.field-0 c.args.code.now c.new_label.new.self c.in_ok-new_label-in-Label.ensures.label c.in_ok-new_label-in-Label.ensures.after)

pub returns-in_default : goal.returns-in_default
returns-in_default t c =
    let single : is_single (statement_of c.args.body.now) ≡ true = first_of (search rules, grind (arith, common_steps)) in
    subst (λ n. HasLabels n c.args.code.now c.args.code.now) (sym (single_labels (statement_of c.args.body.now) single)) (has_none c.args.code.now)
