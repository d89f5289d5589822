use Rattle.std.proofs.Common.{[], ◌∷◌, ◌++◌, ap, ◌∙◌}
use Rattle.netlist.specs.declared.netlist.Signal.{Signal}
use Rattle.circuit.proofs.Growth.{row_grows}
use Rattle.top_wiring.specs.Top.{input, preference}
use Rattle.top_wiring.proofs.signals.push_preferences.Goals as goal

pub loop-number-preserved : goal.loop-number-preserved
loop-number-preserved c =
    row_grows c.args.signals.now c.loop-number.signals c.push.new.self c.loop-number.number preference c.loop-number.invariant
    (c.in_ok-push.ensures.ok ∙ ap (λ (s : Signal). c.loop-number.signals ++ s ∷ []) (c.input.ensures ∙ ap (λ name. input name 6) c.in_ok-name.ensures))
