use Rattle.std.proofs.Common.{◌∙◌, sym}
use Rattle.std.proofs.lemmas.Result.{IfOk-weaker}
use Rattle.c_program.specs.Plain.{expression_of}
use Rattle.c_evaluation.specs.Outcome.{memory_of}
use Rattle.race_check.specs.Access.{touches_of}
use Rattle.race_check.proofs.AddedReads.{indexed_ok, indexed_err}
use Rattle.race_check.proofs.reads.read_element.Goals as goal

pub returns-in-Ok : goal.returns-in-Ok
returns-in-Ok c =
    let m = memory_of c.args.locals.now c.args.globals.now in
    IfOk-weaker c.load.result _ _
    (λ r h. λ ty start own. indexed_ok m c.args.storage c.args.variable c.args.length ty (expression_of c.args.index.now) c.in-Ok.j start (touches_of c.args.list.now) _
    (sym c.in-Ok.is ∙ c.index_of.ensures) own (h m))
    c.load.ensures

pub returns-in-Err : goal.returns-in-Err
returns-in-Err c ty start own =
    let m = memory_of c.args.locals.now c.args.globals.now in
    indexed_err m c.args.storage c.args.variable c.args.length ty (expression_of c.args.index.now) _ start (touches_of c.args.list.now) (sym c.in-Err.is ∙ c.index_of.ensures) own
