use Rattle.std.proofs.lemmas.List.{get_or_default}
use Rattle.top_wiring.proofs.Steps.{wires_named}
use Rattle.top_wiring.proofs.signals.push_wires.Goals as goal

pub loop-wire-preserved : goal.loop-wire-preserved
loop-wire-preserved c =
    wires_named c.args.signals.now c.loop-wire.signals c.push.new.self c.args.wires.now c.loop-wire.wire-index _ c.in_ok-signal.signal c.len.result c.loop-wire.invariant
    c.in_ok-push.ensures.ok c.in_ok-signal.ensures c.len.ensures (get_or_default c.args.wires.now c.loop-wire.wire-index _ _ c.loop-wire-test.true) c.loop-wire-test.true
