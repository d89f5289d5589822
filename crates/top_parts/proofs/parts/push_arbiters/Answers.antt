use Rattle.std.proofs.Common.{ℕ, List, [], ◌∷◌, ◌++◌, replicate, ap, ◌∙◌}
use Rattle.circuit.proofs.Growth.{row_grows}
use Rattle.top_parts.specs.declared.parts.Part.{Part}
use Rattle.top_parts.specs.Parts.{arbiter_part}
use Rattle.top_parts.proofs.parts.push_arbiters.Goals as goal

pub loop-number-preserved : goal.loop-number-preserved
loop-number-preserved c =
    let part : List ℕ → Part = λ o. record { of = c.args.arbiter; outputs = o } in
    row_grows c.args.parts.now c.loop-number.parts c.push.new.self c.loop-number._number (arbiter_part c.args.threads c.args.arbiter) c.loop-number.invariant
    (c.in_ok-push.ensures.ok
    ∙ ap (λ (o : List ℕ). c.loop-number.parts ++ part o ∷ []) (c.in_ok-push_copies.ensures ∙ ap (λ (l : List ℕ). l ++ replicate c.args.threads 1) c.new-outputs.ensures))
