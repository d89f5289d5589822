use Rattle.std.proofs.Common.{List, subst}
use Rattle.std.proofs.lemmas.Result.{on_ok_weaker}
use Rattle.hls_ints.specs.Types.{IntegerType}
use Rattle.thread_promise.specs.Types.{operand_type}
use Rattle.block_datapath.specs.Seen.{ShowsOperand}
use Rattle.block_datapath.specs.Wired.{IsSourced}
use Rattle.block_datapath.proofs.AskedByAccesses.{write_asked, write_linked}
use Rattle.block_datapath.proofs.accesses.ask_write.Goals as goal

pub returns-clause-shows : goal.returns-clause-shows
returns-clause-shows c =
    on_ok_weaker c.ask_spread.result
    (λ last n.
    write_asked c.args.registers.now c.args.code.now.variables c.args.values.now c.args.chains.now c.ask_spread.new.chains c.args.moment c.args.globals.now c.args.spreads.now
    c.args.wires.now.signals
    c.operand_word.new.wires.signals c.converted.new.self.signals c.ask_spread.new.wires.signals c.args.global n c.spread_at-spread.result c.args.index.now c.args.value.now
    c.in_ok-word.word
    c.in_ok-own.own c.global_type-ty.result
    (subst (λ (ts : List IntegerType). ShowsOperand c.args.wires.now.signals c.operand_word.new.wires.signals c.args.registers.now ts c.args.values.now c.args.moment.state
    c.args.value.now
    c.in_ok-word.word) c.as_slice-types.ensures c.in_ok-word.ensures.shows)
    c.in_ok-own.ensures.shows c.global_type-ty.ensures c.spread_at-spread.ensures last)
    c.ask_spread.ensures.shows

pub returns-clause-wired : goal.returns-clause-wired
returns-clause-wired c =
    on_ok_weaker c.ask_spread.result
    (λ last.
    write_linked c.args.registers.now c.args.code.now.variables c.args.values.now c.args.chains.now c.ask_spread.new.chains c.args.moment c.args.globals.now c.args.spreads.now
    c.args.wires.now.signals
    c.operand_word.new.wires.signals c.converted.new.self.signals c.ask_spread.new.wires.signals c.args.global c.spread_at-spread.result c.args.value.now c.in_ok-word.word
    c.in_ok-own.own
    c.global_type-ty.result
    (subst (λ (ts : List IntegerType). IsSourced c.args.wires.now.signals c.operand_word.new.wires.signals ts c.args.registers.now c.args.values.now (operand_type c.args.value.now)
    c.in_ok-word.word) c.as_slice-types.ensures c.in_ok-word.ensures.wired)
    c.in_ok-own.ensures.wired c.global_type-ty.ensures c.spread_at-spread.ensures last)
    c.ask_spread.ensures.wired
