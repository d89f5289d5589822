use Rattle.std.proofs.Common.{ℕ, ◌+◌, ◌++◌, ap, ◌∙◌}
use Rattle.std.specs.Prelude.{slice_index}
use Rattle.top_wiring.specs.Top.{run}
use Rattle.top_parts.proofs.GrownLists.{flat_spread_onto}
use Rattle.top_wiring.proofs.places.Places.push_group.Goals as goal

pub loop-thread-preserved : goal.loop-thread-preserved
loop-thread-preserved c =
    flat_spread_onto (λ i. run (slice_index c.args.self.now.starts i + c.args.first) c.args.count) c.args.inputs.now c.loop-thread.inputs c.push_run.new.places c.loop-thread.thread
    c.loop-thread.invariant (c.in_ok-push_run.ensures ∙ ap (λ (z : ℕ). c.loop-thread.inputs ++ run (z + c.args.first) c.args.count) c.start.ensures.start)
