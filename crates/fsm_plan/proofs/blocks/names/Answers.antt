use Rattle.std.proofs.Common.{◌∙◌, arith, None}
use Rattle.std.proofs.lemmas.List.{take_more, take_all}
use Rattle.fsm_plan.proofs.blocks.names.Goals as goal

pub loop-i-preserved : goal.loop-i-preserved
loop-i-preserved c small =
    let e = c.name.ensures (small c.loop-i.i c.loop-i-test.true) in
    let t = take_more c.args.wide.now c.loop-i.i None c.loop-i-test.true in
    let h = c.loop-i.invariant small in
    let p = c.in_ok-push.ensures.ok in
    cc

pub returns : goal.returns
returns c small = c.loop-i.invariant small ∙ take_all c.loop-i.i c.args.wide.now (omega (arith, c.loop-i-test.false))
