use Rattle.std.proofs.Common.{arith, length, refl}
use Rattle.std.proofs.lemmas.Grind.{common_steps}
use Rattle.std.proofs.lemmas.Option.{slice_get_read}
use Rattle.loop_plans.proofs.Origins.{sources_next}
use Rattle.loop_plans.proofs.carried.last_sources.Goals as goal

pub loop-last_final-preserved : goal.loop-last_final-preserved
loop-last_final-preserved c = λ x.
    (let f = c.last_final-item.result in
    let e = slice_get_read c.args.finals.now (length c.args.finals.now) c.loop-last_final.last_final-index f refl c.loop-last_final-test.true c.last_final-item.is in
    grind (arith, common_steps, c.loop-last_final.invariant x, sources_next c.args.finals.now c.loop-last_final.last_final-index f x e))
