use Rattle.std.proofs.Common.{◌≡◌, ◌<◌, arith}
use Rattle.block_datapath.proofs.BankRequests.{some_none, some_more, some_all, asks_none_wired, asks_more_wired}
use Rattle.block_datapath.proofs.requests.ask_bank.Goals as goal

pub loop-number-preserved : goal.loop-number-preserved
loop-number-preserved c =
    let less : c.loop-number.number < c.args.spread.count = omega arith in (
      some_more c.args.wires.now.signals c.loop-number.wires.signals c.bank_bit.new.wires.signals c.ask_one.new.wires.signals c.args.chains.now c.loop-number.chains
          c.ask_one.new.chains
          c.args.spread c.bank_bits-bits.result c.args.index c.args.access c.loop-number.number c.in_ok-chosen.chosen c.loop-number.invariant.0 c.in_ok-chosen.ensures.shows
          c.in_ok-ask_one.ensures.shows,
      asks_more_wired c.args.wires.now.signals c.loop-number.wires.signals c.bank_bit.new.wires.signals c.ask_one.new.wires.signals c.args.chains.now c.loop-number.chains
          c.ask_one.new.chains c.args.spread c.args.width c.bank_bits-bits.result c.args.index c.args.access c.loop-number.number c.in_ok-chosen.chosen less
          c.bank_bits-bits.ensures.power c.loop-number.invariant.1 c.in_ok-chosen.ensures.wired c.in_ok-ask_one.ensures.wired,
    )

pub loop-number-init : goal.loop-number-init
loop-number-init c = (
  some_none c.args.wires.now.signals c.args.chains.now c.args.spread c.bank_bits-bits.result c.args.index c.args.access,
  asks_none_wired c.args.wires.now.signals c.args.spread c.args.width c.args.index c.args.access c.args.chains.now,
)

pub returns-clause-shows : goal.returns-clause-shows
returns-clause-shows c =
    let all : c.loop-number.number ≡ c.args.spread.count = omega arith in
    some_all c.args.wires.now.signals c.loop-number.wires.signals c.args.chains.now c.loop-number.chains c.args.spread c.bank_bits-bits.result c.args.index c.args.access
    c.loop-number.number all c.bank_bits-bits.ensures.power c.loop-number.invariant.0

pub returns-clause-wired : goal.returns-clause-wired
returns-clause-wired c = c.loop-number.invariant.1

pub returns-then-spread-clause-wired : goal.returns-then-spread-clause-wired
returns-then-spread-clause-wired c =
    asks_none_wired c.args.wires.now.signals c.args.spread c.args.width c.args.index c.args.access c.args.chains.now
