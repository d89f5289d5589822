use Rattle.std.proofs.Common.{rules, ◌≡◌, arith, ◌∙◌, sym, ap, FitsSigned, Ok, Err, drop, suc, ◌∷◌, ◌++◌, [], refl, add-one}
use mir.Syntax.{w128}
use Rattle.std.proofs.lemmas.Int.{to_z-of_z}
use Rattle.c_program.specs.Plain.{expression_of, expressions_of}
use Rattle.thread_semantics.specs.Value.{value, values}
use Rattle.c_evaluation.specs.Outcome.{outcome, memory_of, after_values}
use Rattle.c_evaluation.proofs.Outcomes.{values_err, values_ok, after_values-append, drop-item}
use Rattle.c_evaluation.proofs.evaluate.evaluate_all.Goals as goal

pub returns-in-Err : goal.returns-in-Err
returns-in-Err c =
    let m = memory_of c.args.locals.now c.args.globals.now in
    let e : drop c.loop-expression.expression-index c.args.expressions.now ≡ c.expression-item.result ∷ drop (suc c.loop-expression.expression-index) c.args.expressions.now =
    drop-item c.args.expressions.now c.loop-expression.expression-index c.expression-item.result c.expression-item.is c.loop-expression-test.true
    in
    let v : outcome (value (expression_of c.expression-item.result) m) ≡ Err c.in-Err.cause = sym c.evaluate.ensures ∙ c.in-Err.is in
    let rest = expressions_of (drop (suc c.loop-expression.expression-index) c.args.expressions.now) in
    let all : outcome (values (expression_of c.expression-item.result ∷ rest) m) ≡ Err c.in-Err.cause =
    values_err (expression_of c.expression-item.result) rest m c.in-Err.cause v
    in
    sym (c.loop-expression.invariant ∙ rw (e, all) refl)

pub loop-expression-preserved : goal.loop-expression-preserved
loop-expression-preserved c =
    let m = memory_of c.args.locals.now c.args.globals.now in
    let e : drop c.loop-expression.expression-index c.args.expressions.now ≡ c.expression-item.result ∷ drop (suc c.loop-expression.expression-index) c.args.expressions.now =
    drop-item c.args.expressions.now c.loop-expression.expression-index c.expression-item.result c.expression-item.is c.loop-expression-test.true
    in
    let v : outcome (value (expression_of c.expression-item.result) m) ≡ Ok c.in-Ok.v = sym c.evaluate.ensures ∙ c.in-Ok.is in
    let fits : FitsSigned w128 c.in-Ok.v = search rules in
    let l : c.push.new.self.items ≡ c.loop-expression.list.items ++ c.in-Ok.v ∷ [] = grind (arith, to_z-of_z) in
    let rest = expressions_of (drop (suc c.loop-expression.expression-index) c.args.expressions.now) in
    let more = values_ok (expression_of c.expression-item.result) rest m c.in-Ok.v v in
    let step : outcome (values (expressions_of (drop c.loop-expression.expression-index c.args.expressions.now)) m) ≡ after_values (c.in-Ok.v ∷ []) (outcome (values rest m)) =
    rw e more in
    rw (add-one, l)
    (c.loop-expression.invariant ∙ ap (after_values c.loop-expression.list.items) step ∙ sym (after_values-append c.loop-expression.list.items c.in-Ok.v (outcome (values rest m))))
