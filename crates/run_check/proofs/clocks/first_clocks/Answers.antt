use Rattle.std.proofs.Common.{◌≡◌, ℕ, ap, ◌∙◌}
use Rattle.std.specs.Prelude.{slice_index}
use Rattle.run_check.proofs.Rows.{none_heard, all_zero}
use Rattle.run_check.proofs.clocks.first_clocks.Goals as goal

pub loop-preserved : goal.loop-preserved
loop-preserved c j k =
    let zero : (i : ℕ) → slice_index c.in_ok-clock.clock.items i ≡ 0 = λ i. ap (λ xs. slice_index xs i) c.in_ok-clock.ensures ∙ all_zero c.args.threads i in
    rw c.in_ok-push.ensures.items (none_heard c.loop.clocks.items c.in_ok-clock.clock c.loop.invariant zero j k)
