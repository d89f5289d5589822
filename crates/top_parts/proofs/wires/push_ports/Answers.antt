use Rattle.std.proofs.Common.{get_or}
use Rattle.std.proofs.lemmas.List.{get_or_default}
use Rattle.top_parts.specs.Wires.{port_wire}
use Rattle.top_parts.proofs.GrownLists.{each_onto}
use Rattle.top_parts.proofs.wires.push_ports.Goals as goal

pub loop-number-preserved : goal.loop-number-preserved
loop-number-preserved c =
    each_onto (port_wire c.args.instance c.args.first) c.args.wires.now c.loop-number.wires c.push.new.self c.args.widths.now c.loop-number.number _
    c.loop-number.invariant c.in_ok-push.ensures.ok
    (get_or_default c.args.widths.now c.loop-number.number 0 (get_or c.args.widths.now c.loop-number.number 0) c.loop-number-test.true) c.loop-number-test.true
