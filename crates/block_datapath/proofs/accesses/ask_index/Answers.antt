use Rattle.std.proofs.Common.{List, subst}
use Rattle.std.proofs.lemmas.Result.{on_ok_weaker}
use Rattle.hls_ints.specs.Types.{IntegerType}
use Rattle.thread_promise.specs.Types.{operand_type}
use Rattle.block_datapath.specs.declared.requests.BankAccess.{BankAccess}
use Rattle.block_datapath.specs.Seen.{ShowsOperand}
use Rattle.block_datapath.specs.Wired.{IsSourced}
use Rattle.block_datapath.proofs.AskedByAccesses.{index_asked, index_linked}
use Rattle.block_datapath.proofs.accesses.ask_index.Goals as goal

pub returns-clause-shows : goal.returns-clause-shows
returns-clause-shows c =
    let access : BankAccess = record { state = c.in_ok-state.state; writes = c.in_ok-flag.flag; address = c.in_ok-address.address; value = c.args.value.place } in
    on_ok_weaker c.ask_bank.result (λ last.
    index_asked c.args.registers.now c.args.code.now.variables c.args.values.now c.args.chains.now c.ask_bank.new.chains c.args.moment c.args.wires.now.signals
    c.in_state.new.wires.signals
    c.operand_word.new.wires.signals c.converted.new.self.signals c.bank_address.new.wires.signals c.constant.new.self.signals c.ask_bank.new.wires.signals c.args.spread
    c.args.index.now
    c.args.writes c.args.value c.in_ok-state.state c.in_ok-word.word c.in_ok-wide.wide c.bank_bits-bits.result c.in_ok-address.address c.in_ok-flag.flag c.bit-number.result
    c.in_ok-state.ensures.shows
    (subst (λ (ts : List IntegerType). ShowsOperand c.in_state.new.wires.signals c.operand_word.new.wires.signals c.args.registers.now ts c.args.values.now c.args.moment.state
    c.args.index.now
    c.in_ok-word.word) c.as_slice-types.ensures c.in_ok-word.ensures.shows)
    c.in_ok-wide.ensures.shows c.bank_bits-bits.ensures.power c.in_ok-address.ensures.shows c.in_ok-flag.ensures.shows c.bit-number.ensures.value last)
    c.ask_bank.ensures.shows

pub returns-clause-wired : goal.returns-clause-wired
returns-clause-wired c =
    let access : BankAccess = record { state = c.in_ok-state.state; writes = c.in_ok-flag.flag; address = c.in_ok-address.address; value = c.args.value.place } in
    on_ok_weaker c.ask_bank.result
    (λ last.
    index_linked c.args.registers.now c.args.code.now.variables c.args.values.now c.args.chains.now c.ask_bank.new.chains c.args.moment c.args.wires.now.signals
    c.in_state.new.wires.signals
    c.operand_word.new.wires.signals c.converted.new.self.signals c.bank_address.new.wires.signals c.constant.new.self.signals c.ask_bank.new.wires.signals c.args.spread
    c.args.index.now
    c.args.value c.in_ok-state.state c.in_ok-word.word c.in_ok-wide.wide c.in_ok-address.address c.in_ok-flag.flag c.bit-number.result c.in_ok-state.ensures.wired
    (subst (λ (ts : List IntegerType). IsSourced c.in_state.new.wires.signals c.operand_word.new.wires.signals ts c.args.registers.now c.args.values.now
    (operand_type c.args.index.now)
    c.in_ok-word.word) c.as_slice-types.ensures c.in_ok-word.ensures.wired)
    c.in_ok-wide.ensures.wired c.in_ok-address.ensures.wired c.in_ok-flag.ensures.wired c.bit-number.ensures.small last)
    c.ask_bank.ensures.wired
