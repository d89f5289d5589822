use Rattle.std.proofs.Common.{◌<◌, length, rules}
use Rattle.c_state.proofs.Rows.{blank_at}
use Rattle.c_state.proofs.memory.blank.Goals as goal

pub returns-then-x-len : goal.returns-then-x-len
returns-then-x-len c =
    let h : c.args.x < length c.args.rows.now.items = search rules in
    blank_at c.args.rows.now.items c.args.x c.index_mut.result.now c.blank_row.new.row h c.index_mut.ensures.value c.blank_row.ensures
