use Rattle.std.proofs.Common.{sym, subst}
use Rattle.std.proofs.lemmas.Result.{err_from_is_err_and}
use Rattle.code_places.specs.declared.lowering.Lowering.{Lowering}
use Rattle.code_places.specs.Control.{Begins}
use Rattle.code_places.specs.Labels.{IsOpen}
use Rattle.code_calls.proofs.OpenCalls.{closes_all}
use Rattle.code_calls.proofs.calling.close_call.Goals as goal

pub return_reached-requires : goal.return_reached-requires
return_reached-requires c = c.requires.back

pub begin-requires : goal.begin-requires
begin-requires c =
    subst (λ (z : Lowering). IsOpen c.args.caller.label z.stages) (sym c.leave.ensures)
    ((closes_all c.args.code.now c.return_reached.new.code c.in_ok-return_reached.ensures.closes).open_ c.args.caller.label (λ m. m) c.requires.open_)

pub returns-clause-closes : goal.returns-clause-closes
returns-clause-closes c = record {
  closed = c.return_reached.new.code;
  closes = c.in_ok-return_reached.ensures.closes;
  begins = subst (λ (z : Lowering). Begins c.args.caller.label z c.begin.new.self) c.leave.ensures c.in_ok-begin.ensures;
}

pub returns-in_err-return_reached : goal.returns-in_err-return_reached
returns-in_err-return_reached c =
    let p = err_from_is_err_and c.from_residual.result c.from_residual.ensures.1 in
    record {
      closes = rw p.1 tt;
      full = rw (p.1, p.2) (c.in_err-return_reached.ensures.full);
    }

pub returns-in_err-begin : goal.returns-in_err-begin
returns-in_err-begin c =
    let p = err_from_is_err_and c.from_residual-in_err-begin.result c.from_residual-in_err-begin.ensures.1 in
    record { closes = rw p.1 tt; full = rw (p.1, p.2) (λ is. cc) }
