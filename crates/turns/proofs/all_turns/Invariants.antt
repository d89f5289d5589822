use Rattle.std.proofs.Common.{◌≡◌, ◌++◌, map, drop}
use Rattle.std.specs.Prelude.{option_map}
use Rattle.turns.specs.Turns.{all_turns}
use Rattle.turns.proofs.all_turns.Given as goal

abbrev pub invariant-loop-item : goal.invariant-loop-item
invariant-loop-item l =
    all_turns (map (λ x. x.now) l.items) ≡ option_map (λ ts. l.turns ++ ts) (all_turns (map (λ x. x.now) (drop l.item-index l.items)))
