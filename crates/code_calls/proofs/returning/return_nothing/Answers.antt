use Rattle.std.proofs.Common.{inl, inr, ap, subst}
use Rattle.std.proofs.lemmas.Result.{err_from_is_err_and}
use Rattle.code_blocks.specs.declared.open_block.OpenBlock.{OpenBlock}
use Rattle.code_places.specs.Doing.{IsBackTarget}
use Rattle.code_calls.proofs.returning.return_nothing.Goals as goal

pub jump-requires : goal.jump-requires
jump-requires c = subst (λ b. IsBackTarget b c.args.code.now.stages) c.in-Some.is c.requires

pub returns-in_ok-end-in-None : goal.returns-in_ok-end-in-None
returns-in_ok-end-in-None c = record { returns = inl (record { outermost = c.in-None.is; ends = c.in_ok-end-in-None.ensures }); full = tt }

pub returns-in_ok-jump-in-Some : goal.returns-in_ok-jump-in-Some
returns-in_ok-jump-in-Some c = record {
  returns = inr (record {
    back = c.in-Some.back;
    is_back = c.in-Some.is;
    stepped = record c.args.code.now { block = c.step.new.self };
    is = ap (λ (z : OpenBlock). record c.args.code.now { block = z }) c.in_ok-step-in-Some.ensures.after;
    jumps = c.in_ok-jump-in-Some.ensures;
  });
  full = tt;
}

pub returns-in_err-end-in-None : goal.returns-in_err-end-in-None
returns-in_err-end-in-None c =
    let p = err_from_is_err_and c.from_residual.result c.from_residual.ensures.1 in
    record { returns = rw p.1 tt; full = rw (p.1, p.2) (λ is. cc) }

pub returns-in_err-step-in-Some : goal.returns-in_err-step-in-Some
returns-in_err-step-in-Some c =
    let p = err_from_is_err_and c.from_residual-in_err-step-in-Some.result c.from_residual-in_err-step-in-Some.ensures.1 in
    record {
      returns = rw p.1 tt;
      full = rw (p.1, p.2) (c.in_err-step-in-Some.ensures.full);
    }

pub returns-in_err-jump-in-Some : goal.returns-in_err-jump-in-Some
returns-in_err-jump-in-Some c =
    let p = err_from_is_err_and c.from_residual-in_err-jump-in-Some.result c.from_residual-in_err-jump-in-Some.ensures.1 in
    record { returns = rw p.1 tt; full = rw (p.1, p.2) (λ is. cc) }
