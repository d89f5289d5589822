use Rattle.std.proofs.Common.{◌∙◌}
use Rattle.std.proofs.lemmas.Result.{on_ok_weaker}
use Rattle.unit_datapath.proofs.UnitLinks.{operands_linked}
use Rattle.unit_datapath.proofs.links.link_operands.Goals as goal

pub returns : goal.returns
returns c =
    on_ok_weaker c.link_unit.result
    (λ last.
    operands_linked c.args.code.now c.as_slice-types.result.now c.args.registers.now c.args.plan.now c.args.ty c.args.number c.args.end c.args.further c.start_of-start.result
    c.unit_of-unit.result
    c.from-width.result c.args.left.now c.args.right.now c.args.wires.now.signals c.at_work.new.wires.signals c.unit_word.new.wires.signals c.unit_word-2.new.wires.signals
    c.link_unit.new.wires.signals c.args.inputs.now c.link_unit.new.inputs c.in_ok-here.here c.in_ok-first.first c.in_ok-second.second c.as_slice-types.ensures
    c.start_of-start.ensures
    c.unit_of-unit.ensures (c.from-width.ensures ∙ c.bits.ensures.value) c.in_ok-here.ensures c.in_ok-first.ensures c.in_ok-second.ensures last)
    c.link_unit.ensures
