use Rattle.std.proofs.Common.{◌∙◌}
use Rattle.schedule_sdc.specs.Relaxed.{AreEarly}
use Rattle.schedule_sdc.proofs.relax.settle.Goals as goal

pub one_round-requires-clause-early : goal.one_round-requires-clause-early
one_round-requires-clause-early c = rw c.loop-round.invariant.count c.loop-round.invariant.early

pub returns-in-Kept : goal.returns-in-Kept
returns-in-Kept c =
    let n = c.loop-round.invariant.count in
    let e : AreEarly c.args.list.now c.args.places c.one_round.new.starts.items = rw n at c.in-Kept.ensures.early in
    record { places = c.in-Kept.ensures.count ∙ n; meets = c.in-Kept.ensures.round; least = e }

pub loop-round-preserved : goal.loop-round-preserved
loop-round-preserved c =
    let n = c.loop-round.invariant.count in
    let e : AreEarly c.args.list.now c.args.places c.one_round.new.starts.items = rw n at c.in-Raised.ensures.early in
    record { count = c.in-Raised.ensures.count ∙ n; early = e }

pub one_round-requires-clause-places : goal.one_round-requires-clause-places
one_round-requires-clause-places c = rw c.loop-round.invariant.count c.requires
