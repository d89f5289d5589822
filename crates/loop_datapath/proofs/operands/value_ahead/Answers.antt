use Rattle.std.proofs.Common.{◌∙◌, sym}
use Rattle.loop_datapath.proofs.AheadOperands.{from_wire}
use Rattle.loop_datapath.proofs.AheadWires.{value_of_wire, value_of_register}
use Rattle.loop_datapath.proofs.operands.value_ahead.Goals as goal

pub returns-in-Wire-clause-shows : goal.returns-in-Wire-clause-shows
returns-in-Wire-clause-shows c =
    from_wire c.args.wires.now.signals c.wire_word.new.wires.signals c.args.registers.now c.args.times.now c.args.words.now c.args.at c.args.depth c.args.number c.args.ty
    c.wire_word.result (sym c.value_place.ensures ∙ c.in-Wire.is) c.wire_word.ensures.shows

pub returns-in-Wire-clause-wired : goal.returns-in-Wire-clause-wired
returns-in-Wire-clause-wired c =
    value_of_wire c.wire_word.result c.args.wires.now.signals c.wire_word.new.wires.signals c.args.registers.now c.args.words.now c.args.ty c.wire_word.ensures.wired

pub returns-in-Register-clause-wired : goal.returns-in-Register-clause-wired
returns-in-Register-clause-wired c =
    value_of_register c.register_word.result c.args.wires.now.signals c.register_word.new.wires.signals c.args.registers.now c.args.words.now c.args.ty
    c.register_word.ensures.wired
