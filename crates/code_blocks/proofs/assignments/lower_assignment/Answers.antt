use Rattle.std.proofs.Common.{arith}
use Rattle.std.proofs.lemmas.Result.{IfErr-weaker, IfOk-weaker, err_from_is_err_and}
use Rattle.c_program.specs.Plain.{expression_of, place_of}
use Rattle.code_blocks.proofs.Room.{right_needs, place_needs, found_needs, step_needs}
use Rattle.code_blocks.proofs.Steps.{assignment_at, assignment_steps}
use Rattle.code_blocks.proofs.TypedAssignments.{assignment_works}
use Rattle.code_blocks.proofs.assignments.lower_assignment.Goals as goal

pub returns : goal.returns
returns c = record {
  assigns =
      IfOk-weaker c.step.result _ _
      (λ _ after.
      assignment_at c.args.homes.now (place_of c.args.place.now) (expression_of c.args.right.now)
      c.args.block.now c.lower_expression.new.block c.lower_place.new.block c.store.new.block c.step.new.self
      c.in_ok-target.target c.in_ok-value.value c.in_ok-value.ensures.value c.in_ok-target.ensures.places c.in_ok-store.ensures.stores after)
      c.step.ensures.after;
  typed =
      IfOk-weaker c.step.result _ _
      (λ _ after.
      assignment_works c.args.homes.now (place_of c.args.place.now) (expression_of c.args.right.now)
      c.args.block.now c.lower_expression.new.block c.lower_place.new.block c.store.new.block c.step.new.self
      c.in_ok-target.target c.in_ok-value.value c.in_ok-value.ensures.value c.in_ok-target.ensures.places c.in_ok-store.ensures.stores c.in_ok-store.ensures.few after)
      c.step.ensures.after;
  full =
      IfErr-weaker c.step.result _ _
      (λ fault.
      step_needs (place_of c.args.place.now) (expression_of c.args.right.now) 1 c.args.block.now c.store.new.block fault (omega arith)
      (assignment_steps c.args.homes.now (place_of c.args.place.now) (expression_of c.args.right.now) c.args.block.now c.lower_expression.new.block
      c.lower_place.new.block c.store.new.block c.in_ok-target.target c.in_ok-value.value
      c.in_ok-value.ensures.value c.in_ok-target.ensures.places c.in_ok-store.ensures.stores))
      c.step.ensures.full;
}

pub returns-in_err-value-clause-full : goal.returns-in_err-value-clause-full
returns-in_err-value-clause-full c =
    let p = err_from_is_err_and c.from_residual.result c.from_residual.ensures.1 in
    rw (p.1, p.2)
    (right_needs (place_of c.args.place.now) (expression_of c.args.right.now) 1 c.args.block.now _ (omega arith) c.in_err-value.ensures.full)

pub returns-in_err-target-clause-full : goal.returns-in_err-target-clause-full
returns-in_err-target-clause-full c =
    let p = err_from_is_err_and c.from_residual-in_err-target.result c.from_residual-in_err-target.ensures.1 in
    rw (p.1, p.2)
    (place_needs c.args.homes.now (place_of c.args.place.now) (expression_of c.args.right.now) 1 c.args.block.now c.lower_expression.new.block
    c.in_ok-value.value _ (omega arith) c.in_ok-value.ensures.value
    c.in_err-target.ensures.full)

pub returns-in_err-store-clause-full : goal.returns-in_err-store-clause-full
returns-in_err-store-clause-full c =
    let p = err_from_is_err_and c.from_residual-in_err-store.result c.from_residual-in_err-store.ensures.1 in
    rw (p.1, p.2)
    (found_needs c.args.homes.now (place_of c.args.place.now) (expression_of c.args.right.now) 1 c.args.block.now c.lower_expression.new.block
    c.lower_place.new.block c.in_ok-target.target c.in_ok-value.value _ (omega arith)
    c.in_ok-value.ensures.value c.in_ok-target.ensures.places c.in_err-store.ensures.full)
