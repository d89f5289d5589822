use Rattle.std.proofs.Common.{◌<◌, length, rules}
use Rattle.run_check.proofs.Rows.{get_read, ticks_option}
use Rattle.run_check.proofs.clocks.tick.Goals as goal

pub returns : goal.returns
returns c =
    let rows = c.args.clocks.now.items in
    let lt : c.args.thread < length rows = search rules in
    ticks_option rows c.args.thread c.index_mut.result.now c.tick_own.new.clock c.tick_own.result
    (get_read rows c.args.thread c.index_mut.result.now lt c.index_mut.ensures.value) c.tick_own.ensures
