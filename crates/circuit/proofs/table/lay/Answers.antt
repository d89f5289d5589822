use Rattle.std.proofs.lemmas.Option.{slice_get-get_or}
use Rattle.circuit.specs.Table.{place}
use Rattle.circuit.proofs.TableRows.{rows_grow}
use Rattle.circuit.proofs.table.lay.Goals as goal

pub loop-i-preserved : goal.loop-i-preserved
loop-i-preserved c = rows_grow c.args.threads (place c.args.threads c.args.rows.now) c.loop-i.signals c.lay_row.new.signals c.loop-i.i c.args.rows.now _
    (slice_get-get_or c.args.rows.now c.loop-i.i _ c.loop-i-test.true) c.loop-i.invariant c.in_ok-lay_row.ensures
