use Rattle.std.proofs.Common.{◌≡◌, ◌+◌, ◌*◌, [], length, ap, ◌∙◌, arith}
use Rattle.std.proofs.lemmas.List.Sums.{sum_by-cons}
use Rattle.std.proofs.lemmas.Result.{err_from_is_err_and}
use Rattle.c_program.specs.Plain.{expression_of, thread_call_of}
use Rattle.c_program.specs.Weight.{expression_weight, expressions_weight}
use Rattle.code_blocks.proofs.Room.{full_more}
use Rattle.code_calls.specs.Acts.{values_of}
use Rattle.code_calls.proofs.ReadyOperands.{none_put, value_put, puts_word}
use Rattle.code_calls.proofs.acts.lower_value.Goals as goal

pub returns-in_default : goal.returns-in_default
returns-in_default c = record {
  puts = none_put c.args.homes.now c.args.variable (values_of (thread_call_of c.args.call.now)) c.args.block.now c.in_default.ensures.none;
  full = tt;
}

pub returns : goal.returns
returns c = record {
  puts =
      value_put c.args.homes.now c.args.variable (values_of (thread_call_of c.args.call.now)) (expression_of c.in-Some.value.now) c.args.block.now c.put_word.new.block
      c.in-Some.ensures.some
      (puts_word c.args.homes.now c.args.variable (expression_of c.in-Some.value.now) c.args.block.now c.lower_expression.new.block c.put_word.new.block
      c.in_ok-value.value c.in_ok-value.ensures.value c.in_ok-put_word.ensures);
  full = tt;
}

pub returns-in_err-value : goal.returns-in_err-value
returns-in_err-value c =
    let p = err_from_is_err_and c.from_residual.result c.from_residual.ensures.1 in
    let call = thread_call_of c.args.call.now in
    let e = expression_of c.in-Some.value.now in
    let sum : expressions_weight (values_of call) ≡ expression_weight e + expressions_weight [] = ap expressions_weight c.in-Some.ensures.some ∙ sum_by-cons expression_weight e [] in
    record {
      puts = rw p.1 tt;
      full =
          rw (p.1, p.2)
          (full_more _ (length c.args.block.now.operations + (3 * expression_weight e + 1))
          (length c.args.block.now.operations + (3 * expressions_weight (values_of call) + 1)) (omega (arith, sum)) c.in_err-value.ensures.full);
    }

pub returns-in_err-put_word : goal.returns-in_err-put_word
returns-in_err-put_word c =
    let p = err_from_is_err_and c.from_residual-in_err-put_word.result c.from_residual-in_err-put_word.ensures.1 in
    record { puts = rw p.1 tt; full = rw (p.1, p.2) (λ is. cc) }
