use Rattle.std.proofs.Common.{◌≡◌, drop}
use Rattle.circuit.specs.Readings.{is_on}
use Rattle.sim_values.specs.Flat.{flat_of, reading}
use Rattle.sim_values.proofs.edge.conditions_hold.Given as goal

abbrev pub invariant-loop-condition : goal.invariant-loop-condition
invariant-loop-condition l =
    is_on (reading l.spot (flat_of l.now)) l.conditions
    ≡ is_on (reading l.spot (flat_of l.now)) (drop l.condition-index l.conditions)
