use Rattle.std.proofs.lemmas.Result.{err_from_is_err_and}
use Rattle.code_control.proofs.ControlGrowth.{two_labels}
use Rattle.code_control.proofs.BoundLabels.{two_new}
use Rattle.code_control.proofs.branching.two_labels.Goals as goal

pub returns : goal.returns
returns c = record {
  relabels = two_labels c.args.code.now c.new_label.new.self c.new_label-2.new.self c.in_ok-first.ensures.after c.in_ok-second.ensures.after;
  labels =
      two_new _ _ c.args.code.now c.new_label.new.self c.new_label-2.new.self c.in_ok-first.ensures.label c.in_ok-first.ensures.after c.in_ok-second.ensures.label
      c.in_ok-second.ensures.after;
}

pub returns-in_err-first : goal.returns-in_err-first
returns-in_err-first c =
    let p = err_from_is_err_and c.from_residual.result c.from_residual.ensures.1 in
    record { relabels = rw p.1 tt; labels = rw p.1 tt }

pub returns-in_err-second : goal.returns-in_err-second
returns-in_err-second c =
    let p = err_from_is_err_and c.from_residual-in_err-second.result c.from_residual-in_err-second.ensures.1 in
    record { relabels = rw p.1 tt; labels = rw p.1 tt }
