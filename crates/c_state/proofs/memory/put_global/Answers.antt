use Rattle.std.proofs.Common.{◌<◌, length, rules}
use Rattle.std.proofs.lemmas.Int.{to_z-of_z}
use Rattle.c_state.proofs.Rows.{put_row}
use Rattle.c_state.proofs.memory.put_global.Goals as goal

pub returns-then-x-len : goal.returns-then-x-len
returns-then-x-len c =
    let fits = c.ranges.v in
    let h : c.args.x < length c.args.rows.now.items = search rules in
    put_row c.args.rows.now.items c.args.x c.args.index c.args.v c.index_mut.result.now c.put_element.new.row h c.index_mut.ensures.value (simp to_z-of_z at c.put_element.ensures)
