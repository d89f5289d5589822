use Rattle.std.proofs.lemmas.Result.{IfErr-weaker, IfOk-weaker, err_from_is_err_and}
use Rattle.c_program.specs.Plain.{expression_of, place_of}
use Rattle.std.proofs.Common.{arith}
use Rattle.code_blocks.proofs.Room.{right_needs, place_needs, found_needs, read_needs, update_needs, step_needs}
use Rattle.code_blocks.proofs.Steps.{update_at, update_steps}
use Rattle.code_blocks.proofs.TypedAssignments.{update_works}
use Rattle.code_blocks.proofs.assignments.lower_update.Goals as goal

pub returns : goal.returns
returns c = record {
  assigns =
      IfOk-weaker c.step.result _ _
      (λ _ after.
      update_at c.args.homes.now (place_of c.args.place.now) c.args.operator c.args.ty c.args.ty (expression_of c.args.right.now)
      c.args.block.now c.lower_expression.new.block c.lower_place.new.block c.load.new.block c.put.new.self c.store.new.block c.step.new.self
      c.in_ok-target.target c.in_ok-left.left c.in_ok-right.right c.in_ok-value.value
      c.in_ok-right.ensures.value c.in_ok-target.ensures.places c.in_ok-left.ensures.block c.in_ok-left.ensures.value
      c.in_ok-value.ensures.block c.in_ok-value.ensures.value c.in_ok-store.ensures.stores after)
      c.step.ensures.after;
  typed =
      IfOk-weaker c.step.result _ _
      (λ _ after.
      update_works c.args.homes.now (place_of c.args.place.now) c.args.operator c.args.ty (expression_of c.args.right.now)
      c.args.block.now c.lower_expression.new.block c.lower_place.new.block c.load.new.block c.put.new.self c.store.new.block c.step.new.self
      c.in_ok-target.target c.in_ok-left.left c.in_ok-right.right c.in_ok-value.value
      c.in_ok-right.ensures.value c.in_ok-target.ensures.places c.in_ok-left.ensures.block c.in_ok-left.ensures.value c.in_ok-left.ensures.few
      c.in_ok-value.ensures.block c.in_ok-value.ensures.value c.in_ok-value.ensures.few c.in_ok-store.ensures.stores c.in_ok-store.ensures.few after)
      c.step.ensures.after;
  full =
      IfErr-weaker c.step.result _ _
      (λ fault.
      step_needs (place_of c.args.place.now) (expression_of c.args.right.now) 2 c.args.block.now c.store.new.block fault (omega arith)
      (update_steps c.args.homes.now (place_of c.args.place.now) c.args.operator c.args.ty (expression_of c.args.right.now)
      c.args.block.now c.lower_expression.new.block c.lower_place.new.block c.load.new.block c.put.new.self c.store.new.block c.in_ok-target.target
      c.in_ok-left.left c.in_ok-right.right c.in_ok-value.value
      c.in_ok-right.ensures.value c.in_ok-target.ensures.places c.in_ok-left.ensures.block c.in_ok-value.ensures.block c.in_ok-store.ensures.stores))
      c.step.ensures.full;
}

pub returns-in_err-store-clause-full : goal.returns-in_err-store-clause-full
returns-in_err-store-clause-full c =
    let p = err_from_is_err_and c.from_residual-in_err-store.result c.from_residual-in_err-store.ensures.1 in
    rw (p.1, p.2)
    (update_needs c.args.homes.now (place_of c.args.place.now) c.args.operator c.args.ty (expression_of c.args.right.now)
    c.args.block.now c.lower_expression.new.block c.lower_place.new.block c.load.new.block c.put.new.self c.in_ok-target.target c.in_ok-left.left c.in_ok-right.right _
    c.in_ok-right.ensures.value c.in_ok-target.ensures.places c.in_ok-left.ensures.block c.in_ok-value.ensures.block c.in_err-store.ensures.full)

pub returns-in_err-right-clause-full : goal.returns-in_err-right-clause-full
returns-in_err-right-clause-full c =
    let p = err_from_is_err_and c.from_residual.result c.from_residual.ensures.1 in
    rw (p.1, p.2)
    (right_needs (place_of c.args.place.now) (expression_of c.args.right.now) 2 c.args.block.now _ (omega arith) c.in_err-right.ensures.full)

pub returns-in_err-target-clause-full : goal.returns-in_err-target-clause-full
returns-in_err-target-clause-full c =
    let p = err_from_is_err_and c.from_residual-in_err-target.result c.from_residual-in_err-target.ensures.1 in
    rw (p.1, p.2)
    (place_needs c.args.homes.now (place_of c.args.place.now) (expression_of c.args.right.now) 2 c.args.block.now c.lower_expression.new.block
    c.in_ok-right.right _ (omega arith) c.in_ok-right.ensures.value
    c.in_err-target.ensures.full)

pub returns-in_err-left-clause-full : goal.returns-in_err-left-clause-full
returns-in_err-left-clause-full c =
    let p = err_from_is_err_and c.from_residual-in_err-left.result c.from_residual-in_err-left.ensures.1 in
    rw (p.1, p.2)
    (found_needs c.args.homes.now (place_of c.args.place.now) (expression_of c.args.right.now) 2 c.args.block.now c.lower_expression.new.block
    c.lower_place.new.block c.in_ok-target.target c.in_ok-right.right _ (omega arith)
    c.in_ok-right.ensures.value c.in_ok-target.ensures.places c.in_err-left.ensures.full)

pub returns-in_err-value-clause-full : goal.returns-in_err-value-clause-full
returns-in_err-value-clause-full c =
    let p = err_from_is_err_and c.from_residual-in_err-value.result c.from_residual-in_err-value.ensures.1 in
    rw (p.1, p.2)
    (read_needs c.args.homes.now (place_of c.args.place.now) (expression_of c.args.right.now) c.args.block.now c.lower_expression.new.block
    c.lower_place.new.block c.load.new.block c.in_ok-target.target c.in_ok-right.right _
    c.in_ok-right.ensures.value c.in_ok-target.ensures.places c.in_ok-left.ensures.block c.in_err-value.ensures.full)
