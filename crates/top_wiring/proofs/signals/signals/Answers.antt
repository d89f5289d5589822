use Rattle.top_wiring.proofs.Steps.{top_is}
use Rattle.top_wiring.proofs.signals.signals.Goals as goal

pub returns : goal.returns
returns c =
    top_is c.args.threads c.args.cores c.args.wires.now c.args.done c.in_ok-signals.signals c.push_preferences.new.signals c.push_wires.new.signals c.push.new.self c.in_ok-shown.shown
    c.in_ok-signals.ensures c.in_ok-push_preferences.ensures c.in_ok-push_wires.ensures c.in_ok-shown.ensures c.in_ok-push.ensures.ok
