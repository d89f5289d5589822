use Rattle.std.proofs.lemmas.Option.{slice_get-get_or}
use Rattle.thread_requests.proofs.SpreadBanks.{spread_more}
use Rattle.thread_requests.proofs.banks.spread_places.Goals as goal

pub loop-number-preserved : goal.loop-number-preserved
loop-number-preserved c =
    spread_more c.loop-number.all c.append.new.self c.args.spreads.now c.args.places.now c.loop-number.number _ c.place_of.result c.in_ok-copies.copies c.loop-number.invariant
    (slice_get-get_or c.args.spreads.now c.loop-number.number _ c.loop-number-test.true) c.place_of.ensures c.in_ok-copies.ensures c.in_ok-append.ensures
