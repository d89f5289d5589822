use Rattle.std.proofs.Common.{◌+◌}
use Rattle.circuit.proofs.Growth.{row_grows}
use Rattle.top_wiring.proofs.inputs.push_run.Goals as goal

pub loop-number-preserved : goal.loop-number-preserved
loop-number-preserved c =
    row_grows c.args.places.now c.loop-number.places c.push.new.self c.loop-number.number (λ x. c.args.first + x) c.loop-number.invariant c.in_ok-push.ensures.ok
