use Rattle.std.proofs.Common.{arith, length, refl}
use Rattle.std.proofs.lemmas.Option.{slice_get_read}
use Rattle.register_binding.proofs.ListMarks.{finals_marked, all_finals, nothing_used}
use Rattle.register_binding.proofs.used.mark_finals.Goals as goal

pub loop-finish-init : goal.loop-finish-init
loop-finish-init c = nothing_used _ _ (λ k. refl)

pub loop-finish-preserved : goal.loop-finish-preserved
loop-finish-preserved c =
    finals_marked c.args.finals.now c.loop-finish.finish-index _ _ _ _
    (slice_get_read c.args.finals.now (length c.args.finals.now) c.loop-finish.finish-index c.finish-item.result refl c.loop-finish-test.true c.finish-item.is) c.loop-finish.invariant c.mark.ensures

pub returns : goal.returns
returns c = all_finals c.args.finals.now c.loop-finish.finish-index _ _ (omega (arith, c.loop-finish-test.false)) c.loop-finish.invariant
