use Rattle.std.proofs.Common.{List, ◌∙◌, subst}
use Rattle.hls_ints.specs.Types.{IntegerType}
use Rattle.thread_promise.specs.Types.{operand_type}
use Rattle.block_datapath.specs.Seen.{ShowsOperand}
use Rattle.block_datapath.specs.Wired.{IsSourced}
use Rattle.block_datapath.proofs.ToldWords.{word_taken, word_wired}
use Rattle.block_datapath.proofs.told.spread_value.Goals as goal

pub returns-clause-shows : goal.returns-clause-shows
returns-clause-shows c =
    word_taken c.args.registers.now c.args.wires.now.signals c.operand_word.new.wires.signals c.converted.new.self.signals c.chosen_word.new.wires.signals c.args.code.now.variables
    c.args.values.now c.args.last c.args.spread c.args.ty c.args.index.now c.in_ok-word.word c.in_ok-wide.wide c.from-width.result c.in_ok-place.place c.of_type.result
    (subst (λ (ts : List IntegerType). ShowsOperand c.args.wires.now.signals c.operand_word.new.wires.signals c.args.registers.now ts c.args.values.now c.args.last c.args.index.now
    c.in_ok-word.word) c.as_slice-types.ensures c.in_ok-word.ensures.shows)
    c.in_ok-wide.ensures.shows (c.from-width.ensures ∙ c.bits.ensures.value) c.in_ok-place.ensures.shows c.of_type.ensures.place c.of_type.ensures.width c.of_type.ensures.signed

pub returns-clause-wired : goal.returns-clause-wired
returns-clause-wired c =
    word_wired c.args.registers.now c.args.wires.now.signals c.operand_word.new.wires.signals c.converted.new.self.signals c.chosen_word.new.wires.signals c.args.code.now
    c.args.values.now
    c.args.global c.args.spread c.args.ty c.args.index.now c.in_ok-word.word c.in_ok-wide.wide c.from-width.result c.in_ok-place.place c.of_type.result c.requires
    (subst (λ (ts : List IntegerType). IsSourced c.args.wires.now.signals c.operand_word.new.wires.signals ts c.args.registers.now c.args.values.now (operand_type c.args.index.now)
    c.in_ok-word.word) c.as_slice-types.ensures c.in_ok-word.ensures.wired)
    c.in_ok-wide.ensures.wired (c.from-width.ensures ∙ c.bits.ensures.value) c.in_ok-place.ensures.wired c.of_type.ensures.place c.of_type.ensures.width c.of_type.ensures.signed
