use Rattle.std.proofs.lemmas.Result.{on_ok_weaker, err_from_is_err_and}
use Rattle.code_control.proofs.ControlGrowth.{turns_choice}
use Rattle.code_control.proofs.BoundLabels.{leaps_open, open_target}
use Rattle.code_control.proofs.branching.turn_choice.Goals as goal

pub leap-requires : goal.leap-requires
leap-requires c = open_target c.args.labels.join c.args.code.now.stages c.requires.join

pub bind-requires : goal.bind-requires
bind-requires c = leaps_open c.args.labels.join c.args.labels.if_false c.args.code.now c.leap.new.self c.in_ok-leap.ensures c.requires.if_false

pub returns : goal.returns
returns c =
    on_ok_weaker c.bind.result (turns_choice c.args.labels c.args.code.now c.leap.new.self c.bind.new.self c.in_ok-leap.ensures) c.bind.ensures

pub returns-in_err-leap : goal.returns-in_err-leap
returns-in_err-leap c =
    let p = err_from_is_err_and c.from_residual.result c.from_residual.ensures.1 in
    rw p.1 tt
