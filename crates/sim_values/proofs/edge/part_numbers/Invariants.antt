use Rattle.std.proofs.Common.{◌≡◌, drop}
use Rattle.sim_values.specs.Flat.{flat_of, acted_numbers}
use Rattle.sim_values.proofs.edge.part_numbers.Given as goal

abbrev pub invariant-loop-action : goal.invariant-loop-action
invariant-loop-action l =
    acted_numbers l.spot (flat_of l.now) l.initial.next l.actions
    ≡ acted_numbers l.spot (flat_of l.now) l.next (drop l.action-index l.actions)
