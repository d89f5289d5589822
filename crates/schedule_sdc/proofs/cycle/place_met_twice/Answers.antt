use Rattle.std.proofs.Common.{◌≡◌, replicate, arith, rules, ◌∙◌, None}
use Rattle.std.proofs.lemmas.List.{length-set, length-replicate}
use Rattle.schedule_sdc.proofs.Seen.{few_behind, given, still_behind, still_left, none_behind, unseen-none, seen_free, seen_return}
use Rattle.schedule_sdc.proofs.cycle.place_met_twice.Goals as goal

pub loop-later-init : goal.loop-later-init
loop-later-init c =
    let items : c.in_ok-seen.seen.items ≡ replicate c.args.places None = search rules in
    record {
      within = c.requires.within;
      seen_length = rw items (length-replicate c.args.places None);
      left = rw items (omega (arith, unseen-none c.args.places));
      behind = rw items (none_behind c.args.steps.now c.args.places c.args.top);
    }

pub returns-in-Some : goal.returns-in-Some
returns-in-Some c =
    let i = c.loop-later.invariant in
    seen_return c.requires.history.0 _ _ c.requires.history.1 _ _ i.within i.seen_length i.behind _ c.index.ensures _ c.in-Some.is

pub returns-then-step-eq0 : goal.returns-then-step-eq0
returns-then-step-eq0 c =
    let i = c.loop-later.invariant in
    let free = seen_free c.requires.history.0 _ _ c.requires.history.1 _ _ i.within i.seen_length _ c.index.ensures c.in_default.is in
    few_behind c.requires.history.0 _ _ c.requires.history.1 _ _ i.within i.seen_length _ i.left i.behind free c.if-step-eq0.true

pub loop-later-smaller : goal.loop-later-smaller
loop-later-smaller c =
    let i = c.loop-later.invariant in
    let free = seen_free c.requires.history.0 _ _ c.requires.history.1 _ _ i.within i.seen_length _ c.index.ensures c.in_default.is in
    (given c.requires.history.0 _ _ c.requires.history.1 _ _ i.within i.seen_length _ i.left i.behind free c.if-step-eq0.false).earlier

pub loop-later-preserved : goal.loop-later-preserved
loop-later-preserved c =
    let i = c.loop-later.invariant in
    let free = seen_free c.requires.history.0 _ _ c.requires.history.1 _ _ i.within i.seen_length _ c.index.ensures c.in_default.is in
    let more = c.if-step-eq0.false in
    let gv = given c.requires.history.0 _ _ c.requires.history.1 _ _ i.within i.seen_length _ i.left i.behind free more in
    record {
      within = omega (arith, gv.earlier, i.within);
      seen_length = length-set c.loop-later.seen.items _ _ ∙ i.seen_length;
      left = still_left c.requires.history.0 _ _ c.requires.history.1 _ _ i.within i.seen_length _ i.left i.behind free more;
      behind = still_behind c.requires.history.0 _ _ c.requires.history.1 _ _ i.within i.seen_length _ i.left i.behind free more;
    }
