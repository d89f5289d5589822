use Rattle.std.proofs.Common.{◌∙◌, ap, sym}
use Rattle.std.proofs.lemmas.Result.{IfOk-weaker}
use Rattle.c_program.specs.Plain.{statement_of}
use Rattle.c_evaluation.specs.View.{last_of, loop_of, work_of}
use Rattle.c_evaluation.proofs.OpenedParts.{turn_opened}
use Rattle.c_evaluation.proofs.work.turn.Goals as goal

pub returns-in-Some : goal.returns-in-Some
returns-in-Some c =
    IfOk-weaker c.open_for.result _ _
    (λ g h. turn_opened (loop_of c.args.looping) (statement_of c.deref-in-Some.result.now) (work_of c.args.work.now.items) _ g
    (ap last_of c.in-Some.is ∙ ap statement_of (sym c.deref-in-Some.ensures)) h)
    c.open_for.ensures
