use Rattle.std.proofs.Common.{◌<◌, length, refl, rules}
use Rattle.run_check.proofs.Rows.{get_read}
use Rattle.run_check.proofs.elements.mark_row.Goals as goal

pub returns-then-index-len : goal.returns-then-index-len
returns-then-index-len c ok =
    let row = c.args.row.now.items in
    let lt : c.args.index < length row = search rules in
    record {
      before = c.index_mut.result.now;
      behind = c.mark_element.new.element;
      was = get_read row c.args.index c.index_mut.result.now lt c.index_mut.ensures.value;
      is = refl;
      marked = c.mark_element.ensures ok;
    }
