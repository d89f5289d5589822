use Rattle.std.proofs.lemmas.Result.{on_ok_weaker, err_from_is_err_and}
use Rattle.code_control.proofs.ControlGrowth.{closes_turn}
use Rattle.code_control.proofs.BoundLabels.{leaps_open}
use Rattle.code_control.proofs.branching.close_turn.Goals as goal

pub leap-requires : goal.leap-requires
leap-requires c = c.requires.head

pub bind-requires : goal.bind-requires
bind-requires c = leaps_open c.args.labels.head c.args.labels.leaving c.args.code.now c.leap.new.self c.in_ok-leap.ensures c.requires.leaving

pub returns : goal.returns
returns c =
    on_ok_weaker c.bind.result (closes_turn c.args.labels c.args.code.now c.leap.new.self c.bind.new.self c.in_ok-leap.ensures) c.bind.ensures

pub returns-in_err-leap : goal.returns-in_err-leap
returns-in_err-leap c =
    let p = err_from_is_err_and c.from_residual.result c.from_residual.ensures.1 in
    rw p.1 tt
