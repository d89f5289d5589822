use Rattle.std.proofs.Common.{◌*◌, ◌^◌, arith}
use Rattle.std.proofs.lemmas.Option.{slice_get-get_or}
use Rattle.circuit.proofs.TableRows.{end_grows}
use Rattle.circuit.proofs.table.place.Goals as goal

pub loop-i-preserved : goal.loop-i-preserved
loop-i-preserved c = end_grows c.args.threads c.loop-i.at c.end-at.result c.loop-i.i (65 * 2 ^ 16) c.args.rows.now _
    (slice_get-get_or c.args.rows.now c.loop-i.i _ (omega (arith, c.loop-i-test.true, c.min-i-end.ensures))) c.loop-i.invariant (c.end-at.ensures.end, c.end-at.ensures.near)
