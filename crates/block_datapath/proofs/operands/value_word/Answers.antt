use Rattle.std.proofs.Common.{◌∙◌, sym}
use Rattle.block_datapath.proofs.OperandWords.{value_shown}
use Rattle.block_datapath.proofs.BlockWires.{value_wired, missing_value}
use Rattle.block_datapath.proofs.operands.value_word.Goals as goal

pub returns-clause-shows : goal.returns-clause-shows
returns-clause-shows c =
    value_shown c.converted.result c.args.wires.now.signals c.given_word.new.wires.signals c.converted.new.self.signals c.args.registers.now c.args.values.now c.args.state
    c.args.number c.args.ty
    c.in-Some.given c.in_ok-word.word (sym c.given_at.ensures ∙ c.in-Some.is) c.in_ok-word.ensures.shows c.converted.ensures.shows

pub returns-clause-wired : goal.returns-clause-wired
returns-clause-wired c =
    value_wired c.converted.result c.args.wires.now.signals c.given_word.new.wires.signals c.converted.new.self.signals c.args.registers.now c.args.values.now c.args.number
    c.args.ty
    c.in-Some.given c.in_ok-word.word (sym c.given_at.ensures ∙ c.in-Some.is) c.in_ok-word.ensures.wired c.converted.ensures.wired

pub returns-in_default-clause-wired : goal.returns-in_default-clause-wired
returns-in_default-clause-wired c =
    missing_value c.constant_word.result c.args.wires.now.signals c.constant_word.new.self.signals c.args.registers.now c.args.values.now c.args.ty c.constant_word.ensures.wired
