use Rattle.std.proofs.lemmas.Result.{err_from_is_err_and}
use Rattle.code_control.proofs.ControlGrowth.{three_labels}
use Rattle.code_control.proofs.BoundLabels.{choice_new}
use Rattle.code_control.proofs.branching.choice_labels.Goals as goal

pub returns : goal.returns
returns c = record {
  relabels = three_labels c.args.code.now c.two_labels.new.code c.new_label.new.self c.in_ok-if_true.ensures.relabels c.in_ok-join.ensures.after;
  labels =
      choice_new (record { if_true = c.in_ok-if_true.if_true; if_false = c.in_ok-if_true.if_false; join = c.in_ok-join.join }) c.args.code.now c.two_labels.new.code c.new_label.new.self
      c.in_ok-if_true.ensures.labels c.in_ok-join.ensures.label c.in_ok-join.ensures.after;
}

pub returns-in_err-if_true : goal.returns-in_err-if_true
returns-in_err-if_true c =
    let p = err_from_is_err_and c.from_residual.result c.from_residual.ensures.1 in
    record { relabels = rw p.1 tt; labels = rw p.1 tt }

pub returns-in_err-join : goal.returns-in_err-join
returns-in_err-join c =
    let p = err_from_is_err_and c.from_residual-in_err-join.result c.from_residual-in_err-join.ensures.1 in
    record { relabels = rw p.1 tt; labels = rw p.1 tt }
