use Rattle.std.proofs.lemmas.Option.{slice_get-get_or}
use Rattle.thread_requests.proofs.OutputPorts.{fields_more}
use Rattle.thread_requests.proofs.outputs.add_fields.Goals as goal

pub loop-number-preserved : goal.loop-number-preserved
loop-number-preserved c =
    fields_more c.args.rows.now c.loop-number.rows c.add.new.rows c.args.first c.args.fields.now c.loop-number.number c.width_of_field-width.result _ c.loop-number.invariant
    (slice_get-get_or c.args.fields.now c.loop-number.number _ c.loop-number-test.true) c.width_of_field-width.ensures c.in_ok-add.ensures
