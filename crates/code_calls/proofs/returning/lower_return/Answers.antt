use Rattle.std.proofs.Common.{◌+◌, ◌*◌, length, refl, ap, subst, arith}
use Rattle.std.proofs.lemmas.Result.{on_ok_weaker, IfErr-weaker, err_from_is_err_and}
use Rattle.c_program.specs.Plain.{expression_of}
use Rattle.c_program.specs.Weight.{expression_weight}
use Rattle.code_blocks.specs.declared.open_block.OpenBlock.{OpenBlock}
use Rattle.code_blocks.proofs.Room.{full_more}
use Rattle.code_places.specs.Doing.{IsBackTarget}
use Rattle.code_calls.proofs.ReturnCode.{end_return_at, return_at}
use Rattle.code_places.proofs.OpenParts.{call_proceeds}
use Rattle.code_calls.proofs.OpenCalls.{returns_proceed}
use Rattle.code_calls.proofs.returning.lower_return.Goals as goal

pub return_value-requires : goal.return_value-requires
return_value-requires c = subst (λ b. IsBackTarget b c.args.code.now.stages) c.in-Some.is c.requires.back

pub returns-in_ok-end-in-None : goal.returns-in_ok-end-in-None
returns-in_ok-end-in-None c = record {
  labels = λ around. call_proceeds c.args.code.now c.end.new.self c.requires.reached c.in_ok-end-in-None.ensures around;
  lowers = λ offset P around. end_return_at P c.args.code.now c.end.new.self (expression_of c.args.right.now) c.in-None.is c.in_ok-end-in-None.ensures offset around;
  full = tt;
}

pub returns-in_ok-value-in-Some : goal.returns-in_ok-value-in-Some
returns-in_ok-value-in-Some c =
    let mid = record c.args.code.now { block = c.lower_expression.new.block } in
    record {
      labels =
          on_ok_weaker c.return_value.result
          (λ returns around. returns_proceed c.in-Some.back _ c.args.code.now mid c.return_value.new.code refl refl refl
          (let s = ap (λ (z : OpenBlock). z.steps) c.in_ok-value-in-Some.ensures.value.added in omega (arith, s)) returns c.requires.reached around)
          c.return_value.ensures.returns;
      lowers =
          on_ok_weaker c.return_value.result
          (λ returns offset P around.
          return_at P c.in-Some.back c.args.code.now mid c.return_value.new.code (expression_of c.args.right.now) c.in_ok-value-in-Some.value c.as_slice-homes.result.now c.as_slice-homes.ensures
          c.in_ok-value-in-Some.ensures.value refl c.in-Some.is returns offset around)
          c.return_value.ensures.returns;
      full =
          IfErr-weaker c.return_value.result _ _
          (λ fault.
          let steps = ap (λ (z : OpenBlock). z.steps) c.in_ok-value-in-Some.ensures.value.added in
          full_more fault (c.lower_expression.new.block.steps + 1)
          (length c.args.code.now.block.operations + c.args.code.now.block.steps + (3 * expression_weight (expression_of c.args.right.now) + 1))
          (omega (arith, steps)))
          c.return_value.ensures.full;
    }

pub returns-in_err-end-in-None : goal.returns-in_err-end-in-None
returns-in_err-end-in-None c =
    let p = err_from_is_err_and c.from_residual.result c.from_residual.ensures.1 in
    record { labels = rw p.1 tt; lowers = rw p.1 tt; full = rw (p.1, p.2) (λ is. cc) }

pub returns-in_err-value-in-Some : goal.returns-in_err-value-in-Some
returns-in_err-value-in-Some c =
    let p = err_from_is_err_and c.from_residual-in_err-value-in-Some.result c.from_residual-in_err-value-in-Some.ensures.1 in
    record {
      labels = rw p.1 tt;
      lowers = rw p.1 tt;
      full = rw (p.1, p.2) (full_more _ (length c.args.code.now.block.operations + (3 * expression_weight (expression_of c.args.right.now) + 1))
          (length c.args.code.now.block.operations + c.args.code.now.block.steps + (3 * expression_weight (expression_of c.args.right.now) + 1))
          (omega arith) c.in_err-value-in-Some.ensures.full);
    }
