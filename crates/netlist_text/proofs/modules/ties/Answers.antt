use Rattle.std.proofs.Common.{◌≡◌, ◌+◌, [], ◌∷◌, ◌++◌, get_or, refl, arith}
use Rattle.std.proofs.lemmas.Grind.{common_steps}
use Rattle.netlist_text.specs.LaidOut as laid
use Rattle.netlist_text.proofs.Steps.{places_numbers}
use Rattle.netlist_text.proofs.modules.ties.Goals as goal

pub loop-k-preserved : goal.loop-k-preserved
loop-k-preserved c =
    let at = c.args.first + c.loop-k.k in
    let put : c.push.new.self ≡ c.loop-k.out ++ laid.tie c.args.parent.now c.args.of.now at (get_or c.args.signals.now c.loop-k.k 0) ∷ [] = grind (arith, common_steps) in
    places_numbers (laid.tie c.args.parent.now c.args.of.now) c.args.first c.args.out.now _ _ c.args.signals.now c.args.signals.now c.loop-k.k at
    refl c.loop-k.invariant put refl c.loop-k-test.true
