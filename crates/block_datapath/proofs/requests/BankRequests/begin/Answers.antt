use Rattle.std.proofs.Common.{◌≡◌, length, replicate, ◌∙◌}
use Rattle.block_datapath.specs.declared.requests.BankRequests.{BankRequests}
use Rattle.block_datapath.proofs.ZeroChains.{begun_asks, begun_links}
use Rattle.block_datapath.proofs.requests.BankRequests.begin.Goals as goal

pub returns-clause-shows : goal.returns-clause-shows
returns-clause-shows c =
    let chains : BankRequests =
    record { wants = c.in_ok-wants.wants; writes = c.in_ok-writes.writes; addresses = c.in_ok-addresses.addresses; values = c.in_ok-values.values }
    in
    let ones : c.as_slice-ones.result.now ≡ replicate (length c.args.words.now) 1 =
    c.as_slice-ones.ensures ∙ c.in_ok-bits.ensures
    in
    let longs : c.as_slice-longs.result.now ≡ replicate (length c.args.words.now) 64 =
    c.as_slice-longs.ensures ∙ c.in_ok-wide.ensures
    in
    begun_asks c.args.wires.now.signals c.zeros.new.wires.signals c.zeros-2.new.wires.signals c.zeros-3.new.wires.signals c.zeros-4.new.wires.signals c.args.words.now
    c.as_slice-ones.result.now c.as_slice-longs.result.now chains ones longs c.in_ok-wants.ensures.shows c.in_ok-writes.ensures.shows c.in_ok-addresses.ensures.shows
    c.in_ok-values.ensures.shows

pub returns-clause-wired : goal.returns-clause-wired
returns-clause-wired c =
    let chains : BankRequests =
    record { wants = c.in_ok-wants.wants; writes = c.in_ok-writes.writes; addresses = c.in_ok-addresses.addresses; values = c.in_ok-values.values }
    in
    let ones : c.as_slice-ones.result.now ≡ replicate (length c.args.words.now) 1 =
    c.as_slice-ones.ensures ∙ c.in_ok-bits.ensures
    in
    let longs : c.as_slice-longs.result.now ≡ replicate (length c.args.words.now) 64 =
    c.as_slice-longs.ensures ∙ c.in_ok-wide.ensures
    in
    begun_links c.args.wires.now.signals c.zeros.new.wires.signals c.zeros-2.new.wires.signals c.zeros-3.new.wires.signals c.zeros-4.new.wires.signals c.args.words.now
    c.as_slice-ones.result.now c.as_slice-longs.result.now chains ones longs c.in_ok-wants.ensures.wired c.in_ok-writes.ensures.wired c.in_ok-addresses.ensures.wired
    c.in_ok-values.ensures.wired
