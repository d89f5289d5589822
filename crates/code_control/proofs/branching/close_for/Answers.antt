use Rattle.std.proofs.lemmas.Result.{on_ok_weaker}
use Rattle.code_control.proofs.ControlGrowth.{closes_for}
use Rattle.code_control.proofs.BoundLabels.{site_open, site_target}
use Rattle.code_control.proofs.branching.close_for.Goals as goal

pub close_turn-requires : goal.close_turn-requires
close_turn-requires c = record {
  head = site_target c.args.labels.head c.args.site c.args.code.now c.set_site.new.self c.set_site.ensures c.requires.head;
  leaving = site_open c.args.labels.leaving c.args.site c.args.code.now c.set_site.new.self c.set_site.ensures c.requires.leaving;
}

pub returns : goal.returns
returns c =
    on_ok_weaker c.close_turn.result (closes_for c.args.labels c.args.site c.args.code.now c.set_site.new.self c.close_turn.new.code c.set_site.ensures) c.close_turn.ensures
