use Rattle.std.proofs.Common.{List, ℕ, length, ap, subst, ◌∙◌}
use Rattle.thread_requests.specs.Banks.{AreAddresses, AreWants}
use Rattle.thread_requests.specs.Early.{spread_out}
use Rattle.thread_requests.proofs.BankAsks.{requests_spread}
use Rattle.thread_requests.proofs.banks.spread_requests.Goals as goal

pub returns : goal.returns
returns c =
    let a = c.args.wires.now.signals in
    let b = c.bank_addresses.new.wires.signals in
    let d = c.bank_wants.new.wires.signals in
    let spreads = c.args.spreads.now in
    let whole = c.args.whole.now in
    let words = c.in_ok-words.words in
    let wants = c.in_ok-wants.wants in
    requests_spread spreads a b d whole
    (record { wants = wants; writes = c.in_ok-writes.writes; addresses = c.in_ok-addresses.addresses; values = c.in_ok-values.values }) words
    (subst (λ (z : List ℕ). AreAddresses spreads z a b (length spreads) words) c.as_slice-indices.ensures c.in_ok-words.ensures)
    (subst (λ (z : List ℕ). AreWants spreads z whole.addresses b d (length spreads) wants) c.as_slice.ensures
    (subst (λ (z : List ℕ). AreWants spreads c.as_slice.result.now z b d (length spreads) wants) c.as_slice-indices.ensures c.in_ok-wants.ensures))
    (c.in_ok-writes.ensures ∙ ap (spread_out spreads) c.as_slice-2.ensures)
    (c.in_ok-addresses.ensures ∙ ap (spread_out spreads) c.as_slice-3.ensures)
    (c.in_ok-values.ensures ∙ ap (spread_out spreads) c.as_slice-4.ensures)
