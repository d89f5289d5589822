use Rattle.std.proofs.Common.{◌≡◌, ◌∙◌, sym, slice_get, Some}
use Rattle.block_datapath.proofs.OperandWords.{variable_shown}
use Rattle.block_datapath.proofs.BlockWires.{variable_wired, missing_variable}
use Rattle.block_datapath.proofs.operands.variable_word.Goals as goal

pub returns-clause-shows : goal.returns-clause-shows
returns-clause-shows c =
    let held : slice_get c.args.registers.now.variables c.args.number ≡ Some c.in-Some.held = cc in
    variable_shown c.converted.result c.args.wires.now.signals c.converted.new.self.signals c.args.registers.now c.args.types.now c.args.number c.args.ty c.in-Some-type_at.own
    c.in-Some.held
    c.of_type.result held (sym c.type_at.ensures ∙ c.in-Some-type_at.is) c.of_type.ensures.place c.of_type.ensures.width c.of_type.ensures.signed c.converted.ensures.shows

pub returns-clause-wired : goal.returns-clause-wired
returns-clause-wired c =
    let held : slice_get c.args.registers.now.variables c.args.number ≡ Some c.in-Some.held = cc in
    variable_wired c.converted.result c.args.wires.now.signals c.converted.new.self.signals c.args.types.now c.args.registers.now c.args.number c.args.ty c.in-Some-type_at.own
    c.in-Some.held
    c.of_type.result held (sym c.type_at.ensures ∙ c.in-Some-type_at.is) c.of_type.ensures.place c.of_type.ensures.width c.of_type.ensures.signed c.converted.ensures.wired

pub returns-in_default-clause-wired : goal.returns-in_default-clause-wired
returns-in_default-clause-wired c =
    missing_variable c.constant_word.result c.args.wires.now.signals c.constant_word.new.self.signals c.args.types.now c.args.registers.now c.args.ty c.constant_word.ensures.wired

pub returns-in_default-type_at-clause-wired : goal.returns-in_default-type_at-clause-wired
returns-in_default-type_at-clause-wired c =
    missing_variable c.constant_word-in_default-type_at.result c.args.wires.now.signals c.constant_word-in_default-type_at.new.self.signals c.args.types.now c.args.registers.now
    c.args.ty
    c.constant_word-in_default-type_at.ensures.wired
