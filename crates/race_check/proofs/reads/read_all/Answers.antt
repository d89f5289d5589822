use Rattle.std.proofs.Common.{◌≡◌, ◌+◌, ◌∷◌, suc, drop, sym, subst, arith}
use Rattle.c_program.specs.Plain.{expression_of, expressions_of}
use Rattle.thread_semantics.specs.Value.{values}
use Rattle.c_evaluation.specs.Outcome.{memory_of}
use Rattle.c_evaluation.proofs.Outcomes.{drop-item}
use Rattle.race_check.specs.Access.{touches_of}
use Rattle.race_check.specs.Reads.{Adds}
use Rattle.race_check.proofs.AddedReads.{values_adds}
use Rattle.race_check.proofs.reads.read_all.Goals as goal

pub loop-expression-preserved : goal.loop-expression-preserved
loop-expression-preserved c after rest =
    let m = memory_of c.args.locals.now c.args.globals.now in
    let k = c.loop-expression.expression-index in
    let xs = c.args.expressions.now in
    let item = c.expression-item.result in
    let e : drop k xs ≡ item ∷ drop (suc k) xs = drop-item xs k item c.expression-item.is c.loop-expression-test.true in
    let one : k + 1 ≡ suc k = omega arith in
    let own = subst (λ j. Adds (values (expressions_of (drop j xs)) m) (touches_of c.read.new.list) after) one rest in
    let more =
    values_adds m (expression_of item) (expressions_of (drop (suc k) xs)) (touches_of c.loop-expression.list) (touches_of c.read.new.list) after c.in_ok-read.ensures own in
    c.loop-expression.invariant after
    (subst (λ es. Adds (values (expressions_of es) m) (touches_of c.loop-expression.list) after) (sym e) more)
