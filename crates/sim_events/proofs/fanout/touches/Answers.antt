use Rattle.std.proofs.Common.{◌∙◌, arith}
use Rattle.std.proofs.lemmas.Option.{slice_get_within}
use Rattle.sim_events.proofs.Touched.{touched_more}
use Rattle.sim_events.proofs.fanout.touches.Goals as goal

pub loop-number-preserved : goal.loop-number-preserved
loop-number-preserved c =
    let long = c.loop-number.invariant.long in
    let longer = c.in_ok-wait_for.ensures.long in
    record {
      long = c.in_ok-touch_reads.ensures.long ∙ c.in_ok-wait_for.ensures.long ∙ c.loop-number.invariant.long;
      touched = touched_more c.args.modules.now c.args.steps.now c.args.words c.loop-number.touched.last.items c.wait_for.new.waits.last.items c.touch_reads.new.touched.last.items
          c.loop-number.touched.chain.items c.wait_for.new.waits.chain.items c.touch_reads.new.touched.chain.items c.loop-number.number c.step_at-step.result.now c.step_at-step.ensures
          c.loop-number.invariant.touched (λ l. c.in_ok-wait_for.ensures.waits (omega (arith, l, long))) c.in_ok-wait_for.ensures.keeps c.in_ok-touch_reads.ensures.keeps
          (λ y among l. c.in_ok-touch_reads.ensures.reads y among (omega (arith, l, long, longer)));
    }

pub returns : goal.returns
returns c = λ k y s at touch inside.
    let within = slice_get_within c.args.steps.now k s at in
    c.loop-number.invariant.touched k y s (omega (arith, within)) at touch inside
