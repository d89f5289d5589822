use Rattle.std.proofs.lemmas.Option.{slice_get-get_or}
use Rattle.thread_requests.proofs.OutputPorts.{acts_more}
use Rattle.thread_requests.proofs.outputs.add_acts.Goals as goal

pub loop-number-preserved : goal.loop-number-preserved
loop-number-preserved c =
    acts_more c.args.rows.now c.loop-number.rows c.add_act.new.rows c.args.served c.args.asks.now c.args.requests.now c.args.banks c.args.services.now c.loop-number.number _
    c.ask_behind-ask.result c.loop-number.invariant (slice_get-get_or c.args.services.now c.loop-number.number _ c.loop-number-test.true) c.ask_behind-ask.ensures c.in_ok-add_act.ensures
