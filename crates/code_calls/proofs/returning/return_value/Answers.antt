use Rattle.std.proofs.Common.{◌+◌, ap, arith}
use Rattle.std.proofs.lemmas.Result.{err_from_is_err_and}
use Rattle.code_blocks.specs.declared.open_block.OpenBlock.{OpenBlock}
use Rattle.code_blocks.proofs.Room.{full_more}
use Rattle.code_calls.proofs.ReturnTargets.{is_returned}
use Rattle.code_calls.proofs.returning.return_value.Goals as goal

pub jump-requires : goal.jump-requires
jump-requires c = c.requires

pub returns : goal.returns
returns c = record {
  returns = record {
    put = c.put_returned.new.block;
    puts = c.in_ok-put_returned.ensures;
    stepped = record c.args.code.now { block = c.step.new.self };
    is = ap (λ (z : OpenBlock). record c.args.code.now { block = z }) c.in_ok-step.ensures.after;
    jumps = c.in_ok-jump.ensures;
  };
  full = tt;
}

pub returns-in_err-put_returned : goal.returns-in_err-put_returned
returns-in_err-put_returned c =
    let p = err_from_is_err_and c.from_residual.result c.from_residual.ensures.1 in
    record { returns = rw p.1 tt; full = rw (p.1, p.2) (λ is. cc) }

pub returns-in_err-step : goal.returns-in_err-step
returns-in_err-step c =
    let p = err_from_is_err_and c.from_residual-in_err-step.result c.from_residual-in_err-step.ensures.1 in
    let steps = (is_returned c.args.back.into c.args.back.returns c.args.value.now c.args.code.now.block c.put_returned.new.block c.in_ok-put_returned.ensures).steps in
    record {
      returns = rw p.1 tt;
      full = rw (p.1, p.2) (full_more _ (c.put_returned.new.block.steps + 1) (c.args.code.now.block.steps + 1) (omega (arith, steps)) c.in_err-step.ensures.full);
    }

pub returns-in_err-jump : goal.returns-in_err-jump
returns-in_err-jump c =
    let p = err_from_is_err_and c.from_residual-in_err-jump.result c.from_residual-in_err-jump.ensures.1 in
    record { returns = rw p.1 tt; full = rw (p.1, p.2) (λ is. cc) }
