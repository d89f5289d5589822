use Rattle.std.proofs.Common.{◌+◌, ◌*◌, length, rules, ◌∙◌, ap, FitsSigned, arith}
use mir.Syntax.{w128}
use Rattle.std.proofs.lemmas.Int.{to_z-of_z}
use Rattle.std.proofs.lemmas.Result.{err_from_is_err_and}
use Rattle.hls_ints.specs.Types.{long_int}
use Rattle.block_ir.specs.declared.operand.Source.TheVariants.{Constant as FromConstant}
use Rattle.c_program.specs.Plain.{expression_of}
use Rattle.c_program.specs.Weight.{expression_weight}
use Rattle.code_blocks.specs.Needs.{plain}
use Rattle.code_blocks.proofs.Room.{full_more}
use Rattle.code_calls.proofs.ReadyOperands.{element_evaluates}
use Rattle.code_calls.proofs.acts.element_number.Goals as goal

pub returns-clause-value : goal.returns-clause-value
returns-clause-value c = λ object length_.
    let fits : FitsSigned w128 c.from.result = search rules in
    element_evaluates c.args.homes.now object length_ c.args.first (expression_of c.args.index.now) c.args.block.now c.lower_expression.new.block c.put.new.self
    c.in_ok-value.value c.in_ok-left.left c.plain-right.result c.in_ok-number.number c.in_ok-value.ensures.value c.in_ok-left.ensures
    (c.plain-right.ensures ∙ ap (λ v. plain (FromConstant long_int v)) (to_z-of_z w128 c.from.result fits ∙ c.from.ensures))
    c.in_ok-number.ensures.block c.in_ok-number.ensures.value c.in_ok-number.ensures.few

pub returns-in_err-value : goal.returns-in_err-value
returns-in_err-value c =
    let p = err_from_is_err_and c.from_residual.result c.from_residual.ensures.1 in
    record {
      value = rw p.1 tt;
      full =
          rw (p.1, p.2)
          (full_more _ (length c.args.block.now.operations + (3 * expression_weight (expression_of c.args.index.now) + 1))
          (length c.args.block.now.operations + (3 * expression_weight (expression_of c.args.index.now) + 2)) (omega arith) c.in_err-value.ensures.full);
    }

pub returns-in_err-left : goal.returns-in_err-left
returns-in_err-left c =
    let p = err_from_is_err_and c.from_residual-in_err-left.result c.from_residual-in_err-left.ensures.1 in
    record { value = rw p.1 tt; full = rw (p.1, p.2) (λ is. cc) }

pub returns-in_err-number : goal.returns-in_err-number
returns-in_err-number c =
    let p = err_from_is_err_and c.from_residual-in_err-number.result c.from_residual-in_err-number.ensures.1 in
    let count = c.in_ok-value.ensures.value.computes.count in
    record {
      value = rw p.1 tt;
      full =
          rw (p.1, p.2)
          (full_more _ (length c.lower_expression.new.block.operations + 1)
          (length c.args.block.now.operations + (3 * expression_weight (expression_of c.args.index.now) + 2)) (omega (arith, count)) c.in_err-number.ensures.full);
    }
