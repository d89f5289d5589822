use Rattle.std.proofs.Common.{refl}
use Rattle.interval_pack.specs.FreeRows.{AreRowsAt}
use Rattle.interval_pack.proofs.Vacated.{at_later, one_freed, unchanged}
use Rattle.interval_pack.proofs.rows.free_ended.Goals as goal

pub loop-row-init : goal.loop-row-init
loop-row-init c = record { are = λ ends before le are. at_later ends before _ _ le are; count = refl }

pub loop-row-preserved : goal.loop-row-preserved
loop-row-preserved c = record {
  are = λ ends before le are. one_freed ends _ _ _ _ _
      (c.loop-row.invariant.are ends before le are) c.in-Some.ensures.1 c.in-Some.ensures.0 c.in_ok-insert.ensures.keys c.in_ok-insert.ensures.updates refl;
  count = c.loop-row.invariant.count;
}

pub returns-clause-vacated : goal.returns-clause-vacated
returns-clause-vacated c = λ ends before le are. (
    let now : AreRowsAt ends c.args.place c.loop-row.rows = record { rows_are = c.loop-row.invariant.are ends before le are; later = c.in_default.ensures.1 } in
    unchanged ends _ _ now _ refl c.in_default.ensures.0 refl)
