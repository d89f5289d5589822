use Rattle.std.proofs.Common.{List, ℕ, ◌++◌, ◌∷◌, [], ap, ◌∙◌, arith}
use Rattle.slot_sim.proofs.CollectedParts.{collected_one, collected_more}
use Rattle.slot_sim.proofs.members.collected.Goals as goal

pub loop-number-init : goal.loop-number-init
loop-number-init c =
    collected_one c.args.modules.now c.args.parts.now c.args.first c.push.new.self.items (c.in_ok-push.ensures.items ∙ ap (λ (l : List ℕ). l ++ c.args.first ∷ []) c.new-places.ensures.items)

pub loop-number-preserved : goal.loop-number-preserved
loop-number-preserved c =
    collected_more c.args.modules.now c.args.parts.now c.args.first c.loop-number.number c.loop-number.places.items c.visit.new.places.items c.loop-number.invariant (omega arith) c.in_ok-visit.ensures
