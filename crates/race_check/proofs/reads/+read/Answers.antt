use Rattle.std.proofs.Common.{◌∙◌, sym, ap, subst}
use Rattle.std.proofs.lemmas.Result.{IfOk-weaker}
use Rattle.c_program.specs.Tree.{Expression}
use Rattle.c_program.specs.Plain.{expression_of}
use Rattle.thread_semantics.specs.Value.{value}
use Rattle.c_evaluation.specs.Outcome.{memory_of}
use Rattle.race_check.specs.Access.{touches_of}
use Rattle.race_check.specs.Reads.{Adds}
use Rattle.race_check.proofs.AddedReads.{adds_same}
use Rattle.race_check.proofs.reads.+read.Goals as goal

pub returns-in_ok-read-in-Element : goal.returns-in_ok-read-in-Element
returns-in_ok-read-in-Element t c =
    let m = memory_of c.args.locals.now c.args.globals.now in
    let before = touches_of c.args.list.now in
    let own =
    subst (λ x. Adds (value (expression_of x) m) before (touches_of c.read.new.list)) (c.deref.ensures ∙ sym c.deref-in-Element.ensures) c.in_ok-read-in-Element.ensures in
    let whole = ap (λ e. value (expression_of e) m) c.in-Element.is ∙ ap
    (λ x. value (Expression.Element c.in-Element.storage c.in-Element.variable c.in-Element.length c.in-Element.field-3 (expression_of x)) m)
    (sym c.deref-in-Element.ensures) in
    IfOk-weaker c.read_element.result _ _
    (λ r h. adds_same _ _ _ _ whole (h c.in-Element.field-3 before own))
    c.read_element.ensures
