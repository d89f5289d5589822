use Rattle.std.proofs.lemmas.Option.{slice_get-get_or}
use Rattle.thread_requests.proofs.BankAsks.{addresses_none, addresses_more}
use Rattle.thread_requests.proofs.banks.bank_addresses.Goals as goal

pub loop-number-preserved : goal.loop-number-preserved
loop-number-preserved c =
    addresses_more c.args.spreads.now c.args.indices.now c.args.wires.now.signals c.loop-number.wires.signals c.bank_address.new.wires.signals c.loop-number.number
    c.place_at-index.result c.bank_bits.result c.in_ok-address.address _ c.loop-number.addresses c.push.new.self c.loop-number.invariant
    (slice_get-get_or c.args.spreads.now c.loop-number.number _ c.loop-number-test.true) c.place_at-index.ensures c.bank_bits.ensures.power c.in_ok-address.ensures.shows
    c.in_ok-address.ensures.wired c.in_ok-push.ensures.ok

pub loop-number-init : goal.loop-number-init
loop-number-init c = addresses_none c.args.spreads.now c.args.indices.now c.args.wires.now.signals c.new-addresses.result c.new-addresses.ensures
