use Rattle.std.proofs.Common.{[], ◌∷◌, ◌++◌, ap, ◌∙◌}
use Rattle.netlist.specs.declared.netlist.Instance.{Instance}
use Rattle.circuit.proofs.Growth.{row_grows}
use Rattle.top_wiring.specs.Top.{arbiter_instance}
use Rattle.top_wiring.proofs.places.Places.push_arbiters.Goals as goal

pub loop-number-preserved : goal.loop-number-preserved
loop-number-preserved c =
    let s = c.args.self.now in
    row_grows c.args.instances.now c.loop-number.instances c.push.new.self c.loop-number.number (arbiter_instance s.starts s.threads s.cores s.parts c.args.arbiter) c.loop-number.invariant
    (c.in_ok-push.ensures.ok ∙ ap (λ (x : Instance). c.loop-number.instances ++ x ∷ []) c.in_ok-instance.ensures)
