use Rattle.std.proofs.Common.{subst, ◌∙◌}
use Rattle.std.proofs.lemmas.Result.{on_ok_weaker, IfErr-weaker, err_from_is_err_and}
use Rattle.c_program.specs.Plain.{program_of, statement_of}
use Rattle.code_places.specs.Needing.{IsFullFor}
use Rattle.code_calls.proofs.Overfull.{closing_for}
use Rattle.ir_lower.proofs.statements.lower_body.Goals as goal

pub returns : goal.returns
returns c = record {
  lowers =
      on_ok_weaker c.return_reached.result
      (λ closes.
      record {
        lowered = c.lower_statement.new.code;
        labels = c.in_ok-lower_statement.ensures.labels;
        lowers = c.in_ok-lower_statement.ensures.lowers;
        closes = closes;
      })
      c.return_reached.ensures.closes;
  full =
      IfErr-weaker c.return_reached.result _ _
      (λ fault full.
      closing_for (program_of c.args.program.now) _ (statement_of c.args.body.now) c.args.code.now c.lower_statement.new.code fault c.in_ok-lower_statement.ensures.lowers full)
      c.return_reached.ensures.full;
}

pub returns-in_err-lower_statement : goal.returns-in_err-lower_statement
returns-in_err-lower_statement c =
    let p = err_from_is_err_and c.from_residual.result c.from_residual.ensures.1 in
    record {
      lowers = rw p.1 tt;
      full =
          rw (p.1, p.2)
          (subst (λ n. IsFullFor (program_of c.args.program.now) n (statement_of c.args.body.now) c.args.code.now c.in_err-lower_statement.field-0.0)
          (c.len-depth.ensures ∙ c.args.program.now.functions.ok.0) c.in_err-lower_statement.ensures.full);
    }
