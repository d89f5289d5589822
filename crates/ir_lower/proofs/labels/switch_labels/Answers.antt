use Rattle.std.proofs.Common.{[], ◌∷◌, length, None, ap, arith, length-append}
use Rattle.c_program.specs.Plain.{statement_of}
use Rattle.code_places.specs.declared.lowering.Lowering.{Lowering}
use Rattle.ir_lower.proofs.OpenSwitches.{switch_labelled}
use Rattle.ir_lower.proofs.labels.switch_labels.Goals as goal

pub label_after-first-requires : goal.label_after-first-requires
label_after-first-requires c =
    let number = c.in_ok-past.ensures.label in
    let more = ap (λ (z : Lowering). length z.stages.labels) c.in_ok-past.ensures.after in
    let last = length-append c.args.code.now.stages.labels (None ∷ []) in
    omega (arith, number, more, last)

pub returns : goal.returns
returns c =
    switch_labelled _ (statement_of c.args.body.now) c.args.code.now c.new_label.new.self c.new_labels.new.code c.in_ok-past.ensures.label c.in_ok-past.ensures.after c.label_after-first.ensures
    c.in_ok-new_labels.ensures
