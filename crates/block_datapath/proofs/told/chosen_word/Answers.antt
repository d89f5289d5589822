use Rattle.std.proofs.Common.{◌<◌, arith}
use Rattle.block_datapath.proofs.ToldWords.{choice_first, choice_more, choice_all, choice_begun, choice_wired, some_count}
use Rattle.block_datapath.proofs.told.chosen_word.Goals as goal

pub loop-number-preserved : goal.loop-number-preserved
loop-number-preserved c =
    let less : c.loop-number.number < c.args.spread.count = omega arith in (
      choice_more c.args.registers.now c.args.spread c.args.width c.args.index c.args.wires.now.signals c.loop-number.wires.signals c.bank_bit.new.wires.signals
          c.word_of_bank-in-loop-number.new.wires.signals c.choice.new.self.signals c.bank_bits-bits.result c.loop-number.number c.bank_number-in-loop-number.result
          c.loop-number.word c.in_ok-chosen.chosen
          c.in_ok-told.told
          c.in_ok-word-2.word c.loop-number.invariant.0 c.in_ok-chosen.ensures.shows c.in_ok-told.ensures.shows c.bank_number-in-loop-number.ensures c.in_ok-word-2.ensures.shows,
      choice_wired c.args.registers.now c.args.spread c.args.width c.args.index c.args.wires.now.signals c.loop-number.wires.signals c.bank_bit.new.wires.signals
          c.word_of_bank-in-loop-number.new.wires.signals c.choice.new.self.signals c.bank_bits-bits.result c.loop-number.number c.loop-number.word c.in_ok-chosen.chosen c.in_ok-told.told
          c.in_ok-word-2.word less c.bank_bits-bits.ensures.power c.loop-number.invariant.1 c.in_ok-chosen.ensures.wired c.in_ok-told.ensures.wired c.in_ok-word-2.ensures.wired,
    )

pub loop-number-init : goal.loop-number-init
loop-number-init c = (
  choice_first c.args.registers.now c.args.spread c.args.width c.args.index c.args.wires.now.signals c.word_of_bank.new.wires.signals c.bank_bits-bits.result c.bank_number.result
      c.in_ok-word.word c.in_ok-word.ensures.shows c.bank_number.ensures,
  choice_begun c.args.registers.now c.args.spread c.args.width c.args.index c.args.wires.now.signals c.word_of_bank.new.wires.signals c.in_ok-word.word c.in_ok-word.ensures.wired,
)

pub returns-clause-shows : goal.returns-clause-shows
returns-clause-shows c =
    choice_all c.args.registers.now c.args.spread c.args.width c.args.index c.args.wires.now.signals c.loop-number.wires.signals c.bank_bits-bits.result c.loop-number.number
    c.loop-number.word
    (λ power. let some = some_count c.args.spread.count power in omega arith) c.bank_bits-bits.ensures.power c.loop-number.invariant.0

pub returns-clause-wired : goal.returns-clause-wired
returns-clause-wired c = c.loop-number.invariant.1
