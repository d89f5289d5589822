use Rattle.std.proofs.Common.{rules, ◌≡◌, ◌∙◌, sym, ap, FitsSigned, Ok, Err}
use mir.Syntax.{w128}
use Rattle.std.proofs.lemmas.Int.{to_z-of_z}
use Rattle.std.proofs.lemmas.Result.{err_from_is_err_and}
use Rattle.c_program.specs.Plain.{expression_of}
use Rattle.thread_semantics.specs.Value.{value, checked_index}
use Rattle.c_evaluation.specs.Outcome.{outcome, memory_of}
use Rattle.c_evaluation.proofs.Outcomes.{outcome_ok, outcome_err, row_ok}
use Rattle.c_evaluation.proofs.evaluate.+evaluate.Goals as goal

pub returns-in_err-i-in-Element : goal.returns-in_err-i-in-Element
returns-in_err-i-in-Element t c =
    let m = memory_of c.args.locals.now c.args.globals.now in
    let p = err_from_is_err_and c.from_residual.result c.from_residual.ensures.1 in
    let i : outcome (value (expression_of c.in-Element.index.value) m) ≡ Err c.in_err-i-in-Element.field-0.0 =
    ap (λ e. outcome (value (expression_of e) m)) (sym c.deref.ensures) ∙ sym c.evaluate.ensures ∙ c.in_err-i-in-Element.was
    in
    rw (c.in-Element.is, p.1, p.2) (sym (outcome_err (value (expression_of c.in-Element.index.value) m) _ c.in_err-i-in-Element.field-0.0 i))

pub returns-in_err-a-in-Unary : goal.returns-in_err-a-in-Unary
returns-in_err-a-in-Unary t c =
    let m = memory_of c.args.locals.now c.args.globals.now in
    let p = err_from_is_err_and c.from_residual-in_err-a-in-Unary.result c.from_residual-in_err-a-in-Unary.ensures.1 in
    let a : outcome (value (expression_of c.in-Unary.operand.value) m) ≡ Err c.in_err-a-in-Unary.field-0.0 =
    ap (λ e. outcome (value (expression_of e) m)) (sym c.deref-in-Unary.ensures) ∙ sym c.evaluate-in-Unary.ensures ∙ c.in_err-a-in-Unary.was
    in
    rw (c.in-Unary.is, p.1, p.2) (sym (outcome_err (value (expression_of c.in-Unary.operand.value) m) _ _ a))

pub returns-in_err-a-in-Binary : goal.returns-in_err-a-in-Binary
returns-in_err-a-in-Binary t c =
    let m = memory_of c.args.locals.now c.args.globals.now in
    let p = err_from_is_err_and c.from_residual-in_err-a-in-Binary.result c.from_residual-in_err-a-in-Binary.ensures.1 in
    let a : outcome (value (expression_of c.in-Binary.left.value) m) ≡ Err c.in_err-a-in-Binary.field-0.0 =
    ap (λ e. outcome (value (expression_of e) m)) (sym c.deref-in-Binary.ensures) ∙ sym c.evaluate-in-Binary.ensures ∙ c.in_err-a-in-Binary.was
    in
    rw (c.in-Binary.is, p.1, p.2) (sym (outcome_err (value (expression_of c.in-Binary.left.value) m) _ _ a))

pub returns-in_err-b-in-Binary : goal.returns-in_err-b-in-Binary
returns-in_err-b-in-Binary t c =
    let m = memory_of c.args.locals.now c.args.globals.now in
    let p = err_from_is_err_and c.from_residual-in_err-b-in-Binary.result c.from_residual-in_err-b-in-Binary.ensures.1 in
    let a : outcome (value (expression_of c.in-Binary.left.value) m) ≡ Ok c.in_ok-a-in-Binary.a =
    ap (λ e. outcome (value (expression_of e) m)) (sym c.deref-in-Binary.ensures) ∙ sym c.evaluate-in-Binary.ensures ∙ c.in_ok-a-in-Binary.was
    in
    let b : outcome (value (expression_of c.in-Binary.right.value) m) ≡ Err c.in_err-b-in-Binary.field-0.0 =
    ap (λ e. outcome (value (expression_of e) m)) (sym c.deref-in-Binary-2.ensures) ∙ sym c.evaluate-in-Binary-2.ensures ∙ c.in_err-b-in-Binary.was
    in
    rw (c.in-Binary.is, p.1, p.2)
    (sym (outcome_ok (value (expression_of c.in-Binary.left.value) m) _ _ a ∙ outcome_err (value (expression_of c.in-Binary.right.value) m) _ _ b))

pub returns-in_err-a-in-Cast : goal.returns-in_err-a-in-Cast
returns-in_err-a-in-Cast t c =
    let m = memory_of c.args.locals.now c.args.globals.now in
    let p = err_from_is_err_and c.from_residual-in_err-a-in-Cast.result c.from_residual-in_err-a-in-Cast.ensures.1 in
    let a : outcome (value (expression_of c.in-Cast.operand.value) m) ≡ Err c.in_err-a-in-Cast.field-0.0 =
    ap (λ e. outcome (value (expression_of e) m)) (sym c.deref-in-Cast.ensures) ∙ sym c.evaluate-in-Cast.ensures ∙ c.in_err-a-in-Cast.was
    in
    rw (c.in-Cast.is, p.1, p.2) (sym (outcome_err (value (expression_of c.in-Cast.operand.value) m) _ _ a))

pub returns-in_ok-j-in-Row : goal.returns-in_ok-j-in-Row
returns-in_ok-j-in-Row t c =
    let m = memory_of c.args.locals.now c.args.globals.now in
    let outer = expression_of c.in-Row.outer.value in
    let inner = expression_of c.in-Row.inner.value in
    let a : outcome (value outer m) ≡ Ok c.in_ok-a-in-Row.a =
    ap (λ e. outcome (value (expression_of e) m)) (sym c.deref-in-Row.ensures) ∙ sym c.evaluate-in-Row.ensures ∙ c.in_ok-a-in-Row.was
    in
    let fits : FitsSigned w128 c.in_ok-a-in-Row.a = search rules in
    let i : outcome (checked_index c.in-Row.outer_length c.in_ok-a-in-Row.a) ≡ Ok c.in_ok-i-in-Row.i =
    sym (simp to_z-of_z at c.index_within-in-Row.ensures) ∙ c.in_ok-i-in-Row.was
    in
    let b : outcome (value inner m) ≡ Ok c.in_ok-b-in-Row.b =
    ap (λ e. outcome (value (expression_of e) m)) (sym c.deref-in-Row-2.ensures) ∙ sym c.evaluate-in-Row-2.ensures ∙ c.in_ok-b-in-Row.was
    in
    let fits' : FitsSigned w128 c.in_ok-b-in-Row.b = search rules in
    let j : outcome (checked_index c.in-Row.inner_length c.in_ok-b-in-Row.b) ≡ Ok c.in_ok-j-in-Row.j =
    sym (simp to_z-of_z at c.index_within-in-Row-2.ensures) ∙ c.in_ok-j-in-Row.was
    in
    let whole = row_ok outer inner c.in-Row.outer_length c.in-Row.inner_length m c.in_ok-a-in-Row.a c.in_ok-b-in-Row.b c.in_ok-i-in-Row.i c.in_ok-j-in-Row.j a i b j in
    rw c.in-Row.is (c.row_number.ensures ∙ sym whole)
