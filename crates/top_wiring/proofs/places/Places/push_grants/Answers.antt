use Rattle.std.proofs.Common.{ℕ, ◌+◌, [], ◌∷◌, ◌++◌, ap, ◌∙◌}
use Rattle.std.specs.Prelude.{slice_index}
use Rattle.circuit.proofs.Growth.{row_grows}
use Rattle.top_wiring.specs.Top.{grant_places}
use Rattle.top_wiring.proofs.places.Places.push_grants.Goals as goal

pub loop-core-preserved : goal.loop-core-preserved
loop-core-preserved c =
    row_grows c.args.inputs.now c.loop-core.inputs c.push.new.self c.loop-core.core (grant_places c.args.self.now.starts c.args.self.now.threads c.args.self.now.cores c.args.thread)
    c.loop-core.invariant
    (c.in_ok-push.ensures.ok
    ∙ ap (λ (x : ℕ). c.loop-core.inputs ++ (x + c.args.thread) ∷ []) (c.start.ensures.start ∙ ap (slice_index c.args.self.now.starts) c.arbiter.ensures.arbiter))
