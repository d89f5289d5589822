use Rattle.block_datapath.proofs.Kept.{block_leaves}
use Rattle.block_datapath.proofs.LinkWires.{kept_block_wired}
use Rattle.block_datapath.proofs.leaving_block.leave_block.Goals as goal

pub returns-clause-shows : goal.returns-clause-shows
returns-clause-shows c =
    block_leaves c.args.globals.now c.args.code.now c.args.registers.now c.args.stage c.args.block.now c.args.plan.now c.args.wires.now.signals c.finish_block.new.wires.signals
    c.keep_all.new.wires.signals c.args.variables.now c.finish_block.new.variables c.args.kept.now c.keep_all.new.nexts c.in_ok-left.left c.as_slice-given.result.now
    c.as_slice-given.ensures
    c.in_ok-left.ensures.shows c.in_ok-keep_all.ensures.shows

pub returns-clause-wired : goal.returns-clause-wired
returns-clause-wired c =
    kept_block_wired c.args.wires.now.signals c.finish_block.new.wires.signals c.keep_all.new.wires.signals c.args.code.now c.args.registers.now c.args.stage c.args.plan.now
    c.args.variables.now
    c.finish_block.new.variables c.args.kept.now c.keep_all.new.nexts c.in_ok-left.left c.as_slice-given.result.now c.as_slice-given.ensures c.in_ok-left.ensures.shows.states
    c.in_ok-left.ensures.wired c.in_ok-keep_all.ensures.wired
