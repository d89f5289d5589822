use Rattle.std.proofs.lemmas.Result.{on_ok_weaker}
use Rattle.code_control.proofs.ControlGrowth.{turns_for}
use Rattle.code_control.proofs.BoundLabels.{site_open}
use Rattle.code_control.proofs.branching.turn_for.Goals as goal

pub bind-requires : goal.bind-requires
bind-requires c = site_open c.args.labels.turning c.args.site c.args.code.now c.set_site.new.self c.set_site.ensures c.requires

pub returns : goal.returns
returns c =
    on_ok_weaker c.bind.result (turns_for c.args.labels.turning c.args.site c.args.code.now c.set_site.new.self c.bind.new.self c.set_site.ensures) c.bind.ensures
