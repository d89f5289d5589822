use Rattle.std.proofs.lemmas.Result.{on_ok_weaker}
use Rattle.block_datapath.proofs.AskedByAccesses.{block_asked, block_linked}
use Rattle.block_datapath.proofs.accesses.ask_block.Goals as goal

pub returns-clause-shows : goal.returns-clause-shows
returns-clause-shows c =
    on_ok_weaker c.ask_all.result
    (λ last.
    block_asked c.args.globals.now c.args.spreads.now c.args.code.now c.args.registers.now c.args.stage c.args.block.now c.args.plan.now c.args.wires.now.signals
    c.at_stage.new.wires.signals
    c.registered_values.new.wires.signals c.ask_all.new.wires.signals c.args.chains.now c.ask_all.new.chains c.in_ok-at.at c.as_slice-given.result.now c.in_ok-values.values
    c.end_of-end.result c.as_slice-given.ensures c.end_of-end.ensures.at c.end_of-end.ensures.states c.in_ok-at.ensures.shows c.in_ok-values.ensures.values last)
    c.ask_all.ensures.shows

pub returns-clause-wired : goal.returns-clause-wired
returns-clause-wired c =
    on_ok_weaker c.ask_all.result
    (λ last.
    block_linked c.args.globals.now c.args.spreads.now c.args.code.now c.args.registers.now c.args.stage c.args.block.now c.args.plan.now c.args.wires.now.signals
    c.at_stage.new.wires.signals
    c.registered_values.new.wires.signals c.ask_all.new.wires.signals c.args.chains.now c.ask_all.new.chains c.in_ok-at.at c.as_slice-given.result.now c.in_ok-values.values
    c.end_of-end.result c.as_slice-given.ensures c.end_of-end.ensures.at c.end_of-end.ensures.states c.in_ok-at.ensures.wired c.in_ok-values.ensures.wired last)
    c.ask_all.ensures.wired
