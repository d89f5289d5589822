use Rattle.std.proofs.Common.{◌+◌, ◌∙◌, ap, subst, slice_get, slice_index, arith}
use Rattle.sim_events.specs.Events.{marked_from}
use Rattle.sim_events.proofs.Marks.{AreMarking, marking_none, marking_more, marking_among}
use Rattle.sim_events.proofs.pending.mark.Goals as goal

pub loop-place-init : goal.loop-place-init
loop-place-init c = record {
  marking = marking_none c.args.fanout.now.steps.items c.args.from c.place_at-first.result c.args.pending.now.steps.items c.place_at-first.result (omega arith);
  flagged = c.requires.flagged;
}

pub loop-place-preserved : goal.loop-place-preserved
loop-place-preserved c = record {
  marking = marking_more c.args.fanout.now.steps.items c.args.from c.place_at-first.result c.args.pending.now.steps.items c.loop-place.pending.steps.items c.loop-place.place
      c.loop-place.invariant.marking c.mark_listed.new.pending.steps.items
      (c.mark_listed.ensures.steps ∙ ap (λ l. marked_from c.args.from c.loop-place.pending.steps.items (slice_get l c.loop-place.place)) c.as_slice-in-loop-place.ensures.value);
  flagged = c.mark_listed.ensures.flagged;
}

pub returns-clause-marked : goal.returns-clause-marked
returns-clause-marked c =
    let listed = c.args.fanout.now.steps.items in
    let first = c.place_at-first.ensures ∙ ap (λ l. slice_index l c.args.word) c.as_slice.ensures.value in
    let end = c.place_at-end.ensures ∙ ap (λ l. slice_index l (c.args.word + 1)) c.as_slice-2.ensures.value in
    marking_among listed c.args.fanout.now.starts.items c.args.from c.args.word c.args.pending.now.steps.items c.loop-place.pending.steps.items c.loop-place.place
    (subst (λ z. AreMarking listed c.args.from z c.args.pending.now.steps.items c.loop-place.pending.steps.items c.loop-place.place) first c.loop-place.invariant.marking) (omega (arith, end))

pub returns-clause-long : goal.returns-clause-long
returns-clause-long c = c.loop-place.invariant.marking.long

pub returns-clause-keeps : goal.returns-clause-keeps
returns-clause-keeps c = c.loop-place.invariant.marking.keeps

pub returns-clause-before : goal.returns-clause-before
returns-clause-before c = c.loop-place.invariant.marking.before

pub returns-clause-flagged : goal.returns-clause-flagged
returns-clause-flagged c = c.loop-place.invariant.flagged
