use Rattle.std.proofs.Common.{◌∙◌, ap, length, arith}
use Rattle.std.specs.Prelude.{slice_index}
use Rattle.std.proofs.lemmas.List.{ext_get_or}
use Rattle.std.proofs.Math.ListN.{length-set}
use Rattle.sim_events.proofs.TakenNumbers.{same_next, same_still}
use Rattle.sim_events.proofs.pending.take_over.Goals as goal
use Rattle.sim_events.proofs.pending.take_over.Goals.{then-is_other, else-is_other}

pub loop-place-preserved : goal.loop-place-preserved
loop-place-preserved c =
    let numbers = c.loop-place.numbers in
    let next = c.args.next.now in
    let place = c.loop-place.place in
    let long = c.loop-place.invariant.long in
    elim c.if-is_other.branch [
      | then-is_other w ↦
          rw w.numbers-is
          (rw w.pending-is
          (record {
            long = ap length w.put.ensures.numbers ∙ length-set numbers place c.item_at-number.result ∙ long;
            same = λ y l. ap (λ ns. slice_index ns y) w.put.ensures.numbers ∙ same_next numbers next place c.item_at-number.result (omega (arith, long)) c.item_at-number.ensures c.loop-place.invariant.same y l;
            keeping = λ modules steps is. w.put.ensures.keeping modules steps (c.loop-place.invariant.keeping modules steps is);
            flagged = w.put.ensures.flagged;
          }))
      | else-is_other w ↦
          rw w.numbers-is
          (rw w.pending-is
          (record {
            long = long;
            same = λ y l. same_still numbers next place (c.is_other.ensures w.if-is_other.false ∙ c.item_at-number.ensures) c.loop-place.invariant.same y l;
            keeping = c.loop-place.invariant.keeping;
            flagged = c.loop-place.invariant.flagged;
          }))
    ]

pub returns-clause-numbers : goal.returns-clause-numbers
returns-clause-numbers c = ext_get_or 0 c.loop-place.numbers c.args.next.now c.loop-place.invariant.long
    (λ y inside. let long = c.loop-place.invariant.long in c.loop-place.invariant.same y (omega (arith, inside, long)))
