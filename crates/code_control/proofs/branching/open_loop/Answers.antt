use Rattle.std.proofs.lemmas.Result.{err_from_is_err_and}
use Rattle.code_places.proofs.CodeGrowth.{relabels_both}
use Rattle.code_control.proofs.ControlGrowth.{opens_loop}
use Rattle.code_control.proofs.BoundLabels.{loop_new}
use Rattle.code_control.proofs.branching.open_loop.Goals as goal

pub begin-requires : goal.begin-requires
begin-requires c = c.in_ok-turning.ensures.relabels.advances.open_ c.in_ok-head.head (λ m. m) c.in_ok-head.ensures.labels.one.open_

pub returns : goal.returns
returns c =
    opens_loop _ c.args.code.now c.two_labels-2.new.code c.begin.new.self
    (relabels_both c.args.code.now c.two_labels.new.code c.two_labels-2.new.code c.in_ok-head.ensures.relabels c.in_ok-turning.ensures.relabels)
    (loop_new _ c.args.code.now c.two_labels.new.code c.two_labels-2.new.code c.in_ok-head.ensures.labels c.in_ok-turning.ensures.relabels c.in_ok-turning.ensures.labels)
    c.in_ok-begin.ensures

pub returns-in_err-head : goal.returns-in_err-head
returns-in_err-head c =
    let p = err_from_is_err_and c.from_residual.result c.from_residual.ensures.1 in
    rw p.1 tt

pub returns-in_err-turning : goal.returns-in_err-turning
returns-in_err-turning c =
    let p = err_from_is_err_and c.from_residual-in_err-turning.result c.from_residual-in_err-turning.ensures.1 in
    rw p.1 tt

pub returns-in_err-begin : goal.returns-in_err-begin
returns-in_err-begin c =
    let p = err_from_is_err_and c.from_residual-in_err-begin.result c.from_residual-in_err-begin.ensures.1 in
    rw p.1 tt
