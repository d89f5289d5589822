use Rattle.std.proofs.lemmas.Result.{on_ok_weaker}
use Rattle.block_datapath.proofs.AskedByAccesses.{read_asked, read_linked}
use Rattle.block_datapath.proofs.accesses.ask_read.Goals as goal

pub returns-clause-shows : goal.returns-clause-shows
returns-clause-shows c =
    on_ok_weaker c.ask_spread.result
    (λ last n.
    read_asked c.args.registers.now c.args.code.now.variables c.args.values.now c.args.chains.now c.ask_spread.new.chains c.args.moment c.args.globals.now c.args.spreads.now
    c.args.wires.now.signals
    c.constant_word.new.self.signals c.ask_spread.new.wires.signals c.args.global n c.global_type-ty.result c.spread_at-spread.result c.args.index.now c.in_ok-zero.zero
    c.in_ok-zero.ensures.shows c.spread_at-spread.ensures last)
    c.ask_spread.ensures.shows

pub returns-clause-wired : goal.returns-clause-wired
returns-clause-wired c =
    on_ok_weaker c.ask_spread.result
    (λ last.
    read_linked c.args.registers.now c.args.code.now.variables c.args.values.now c.args.chains.now c.ask_spread.new.chains c.args.moment c.args.globals.now c.args.spreads.now
    c.args.wires.now.signals
    c.constant_word.new.self.signals c.ask_spread.new.wires.signals c.args.global c.spread_at-spread.result c.in_ok-zero.zero c.global_type-ty.result c.in_ok-zero.ensures.wired
    c.global_type-ty.ensures c.spread_at-spread.ensures last)
    c.ask_spread.ensures.wired
