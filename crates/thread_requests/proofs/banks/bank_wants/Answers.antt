use Rattle.std.proofs.lemmas.Option.{slice_get-get_or}
use Rattle.thread_requests.proofs.BankAsks.{wants_none, wants_more}
use Rattle.thread_requests.proofs.banks.bank_wants.Goals as goal

pub loop-number-preserved : goal.loop-number-preserved
loop-number-preserved c =
    wants_more c.args.spreads.now c.args.wants.now c.args.indices.now c.args.wires.now.signals c.loop-number.wires.signals c.own_wants.new.wires.signals c.loop-number.number
    c.place_at-want.result c.place_at-index.result _ c.loop-number.all c.in_ok-own.own c.append.new.self c.loop-number.invariant
    (slice_get-get_or c.args.spreads.now c.loop-number.number _ c.loop-number-test.true) c.place_at-want.ensures c.place_at-index.ensures c.in_ok-own.ensures c.in_ok-append.ensures

pub loop-number-init : goal.loop-number-init
loop-number-init c = wants_none c.args.spreads.now c.args.wants.now c.args.indices.now c.args.wires.now.signals c.new-all.result c.new-all.ensures
