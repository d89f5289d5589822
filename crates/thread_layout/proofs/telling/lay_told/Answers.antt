use Rattle.std.proofs.Common.{subst, ◌∙◌, ap, ◌≡◌, List, ℕ, length}
use Rattle.std.specs.Prelude.{slice_index, if◌then◌else◌}
use Rattle.thread_slots.proofs.BitLists.{both_as, adds_both_as, any_as, adds_any_as}
use Rattle.thread_layout.specs.Telling.{TakesFirst}
use Rattle.thread_layout.proofs.Tellings.{told_laid}
use Rattle.thread_layout.proofs.telling.lay_told.Goals as goal
use Rattle.std.proofs.Common.{refl, true}

pub returns : goal.returns
returns c =
    let b = c.constant-2.new.self.signals in
    let d = c.both_each.new.wires.signals in
    let e = c.any_of.new.wires.signals in
    let named = c.args.named.now in
    let heard = c.in_ok-heard.heard in
    let holds = c.in_ok-holds.holds in
    let both = c.in_ok-both.both in
    let served = c.args.served in
    let heard_same : c.as_slice-heard.result.now ≡ heard = c.as_slice-heard.ensures in
    told_laid served named c.args.news.now c.args.wires.now.signals c.constant.new.self.signals b d e c.in_ok-never.never c.in_ok-nothing.nothing heard holds both _
    c.in_ok-never.ensures.shows c.in_ok-nothing.ensures.shows c.in_ok-heard.ensures
    (subst (λ (l : List ℕ). TakesFirst l (length named) holds) heard_same c.in_ok-holds.ensures)
    (both_as b d named c.as_slice-holds.result.now named holds both refl c.as_slice-holds.ensures c.in_ok-both.ensures.shows)
    (any_as d e c.in_ok-never.never c.in_ok-barred.barred (λ k. true) c.as_slice-both.result.now both c.as_slice-both.ensures c.in_ok-barred.ensures.shows)
    (c.pick.ensures
    ∙ ap (λ z. if served.thread_ids then z else c.in_ok-never.never) (c.place_at.ensures ∙ ap (λ (l : List ℕ). slice_index l served.barriers) heard_same))
    (c.pick-2.ensures
    ∙ ap (λ z. if served.thread_ids then z else c.in_ok-nothing.nothing)
    (c.place_at-2.ensures ∙ ap (λ (l : List ℕ). slice_index l c.in_ok-last.last) heard_same ∙ ap (slice_index heard) c.in_ok-last.ensures))
    c.in_ok-never.ensures.wired c.in_ok-nothing.ensures.wired
    (adds_both_as b d named c.as_slice-holds.result.now named holds both refl c.as_slice-holds.ensures c.in_ok-both.ensures.wired)
    (adds_any_as d e c.in_ok-never.never c.in_ok-barred.barred c.as_slice-both.result.now both c.as_slice-both.ensures c.in_ok-barred.ensures.wired)
