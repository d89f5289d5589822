use Rattle.std.proofs.Common.{ℕ, ◌+◌, ◌*◌, [], ◌∷◌, ◌++◌, ap, ◌∙◌}
use Rattle.std.specs.Prelude.{slice_index}
use Rattle.circuit.proofs.Growth.{row_grows}
use Rattle.top_wiring.proofs.places.Places.push_told.Goals as goal

pub loop-number-preserved : goal.loop-number-preserved
loop-number-preserved c =
    let starts = c.args.self.now.starts in
    let threads = c.args.self.now.threads in
    let behind : ℕ → ℕ = λ j. threads + (j * threads + c.args.thread) in
    row_grows c.args.inputs.now c.loop-number.inputs c.push.new.self c.loop-number.number (λ j. slice_index starts (threads + c.args.core) + behind j) c.loop-number.invariant
    (c.in_ok-push.ensures.ok
    ∙ ap (λ (x : ℕ). c.loop-number.inputs ++ (x + behind c.loop-number.number) ∷ []) (c.start-first.ensures.start ∙ ap (slice_index starts) c.core.ensures.core))
