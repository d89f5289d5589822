use Rattle.std.proofs.Common.{◌≡◌, drop}
use Rattle.sim_values.specs.Flat.{flat_of, all_numbers}
use Rattle.sim_values.proofs.edge.edge_numbers.Given as goal

abbrev pub invariant-loop-part : goal.invariant-loop-part
invariant-loop-part l =
    all_numbers l.modules (flat_of l.now) l.initial.next l.parts
    ≡ all_numbers l.modules (flat_of l.now) l.next (drop l.part-index l.parts)
