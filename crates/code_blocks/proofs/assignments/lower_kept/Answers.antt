use Rattle.std.proofs.lemmas.Result.{IfErr-weaker, IfOk-weaker, err_from_is_err_and}
use Rattle.c_program.specs.Plain.{expression_of}
use Rattle.code_blocks.proofs.KeptValues.{kept_at, kept_works, kept_step, kept_operand, kept_store}
use Rattle.code_blocks.proofs.assignments.lower_kept.Goals as goal

pub returns : goal.returns
returns c = record {
  keeps =
      IfOk-weaker c.step.result _ _
      (λ _ after.
      kept_at c.args.homes.now c.args.slot c.args.ty (expression_of c.args.operand.now) c.args.block.now c.lower_expression.new.block c.store.new.block c.step.new.self
      c.first_index-index.result c.in_ok-value.value c.in_ok-kept.kept c.target_at-target.result c.in_ok-value.ensures.value c.in_ok-kept.ensures c.first_index-index.ensures c.target_at-target.ensures
      c.in_ok-store.ensures.stores after)
      c.step.ensures.after;
  typed =
      IfOk-weaker c.step.result _ _
      (λ _ after.
      kept_works c.args.homes.now c.args.slot c.args.ty (expression_of c.args.operand.now) c.args.block.now c.lower_expression.new.block c.store.new.block c.step.new.self
      c.first_index-index.result c.in_ok-value.value c.in_ok-kept.kept c.target_at-target.result c.in_ok-value.ensures.value c.in_ok-kept.ensures c.first_index-index.ensures c.target_at-target.ensures
      c.in_ok-store.ensures.stores c.in_ok-store.ensures.few after)
      c.step.ensures.after;
  full =
      IfErr-weaker c.step.result _ _
      (λ fault.
      kept_step c.args.homes.now c.args.slot c.args.ty (expression_of c.args.operand.now) c.args.block.now c.lower_expression.new.block c.store.new.block c.step.new.self
      c.first_index-index.result c.in_ok-value.value c.in_ok-kept.kept c.target_at-target.result c.in_ok-value.ensures.value c.in_ok-kept.ensures c.first_index-index.ensures c.target_at-target.ensures
      c.in_ok-store.ensures.stores fault)
      c.step.ensures.full;
}

pub returns-in_err-value-clause-full : goal.returns-in_err-value-clause-full
returns-in_err-value-clause-full c =
    let p = err_from_is_err_and c.from_residual.result c.from_residual.ensures.1 in
    rw (p.1, p.2) (kept_operand (expression_of c.args.operand.now) c.args.block.now _ c.in_err-value.ensures.full)

pub returns-in_err-store-clause-full : goal.returns-in_err-store-clause-full
returns-in_err-store-clause-full c =
    let p = err_from_is_err_and c.from_residual-in_err-store.result c.from_residual-in_err-store.ensures.1 in
    rw (p.1, p.2)
    (kept_store c.args.homes.now (expression_of c.args.operand.now) c.args.block.now c.lower_expression.new.block c.in_ok-value.value _ c.in_ok-value.ensures.value c.in_err-store.ensures.full)
