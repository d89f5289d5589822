use Rattle.std.proofs.Common.{◌<◌, length, rules}
use Rattle.c_state.proofs.Rows.{put_row}
use Rattle.c_state.proofs.memory.put_local.Goals as goal

pub returns-then-x-len : goal.returns-then-x-len
returns-then-x-len c =
    let h : c.args.x < length c.args.rows.now.items = search rules in
    put_row c.args.rows.now.items c.args.x c.args.index c.args.v c.index_mut.result.now c.put_element.new.row h c.index_mut.ensures.value c.put_element.ensures
