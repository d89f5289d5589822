use Rattle.std.proofs.Common.{◌≡◌, drop}
use Rattle.verilog_meaning.specs.Readings.{is_on}
use Rattle.sim_values.specs.Flat.{reading}
use Rattle.sim_layout.specs.Running.{flat}
use Rattle.slot_sim.proofs.changing.all_hold.Given as goal

abbrev pub invariant-loop-condition : goal.invariant-loop-condition
invariant-loop-condition l =
    is_on (reading l.spot (flat l.sim)) l.conditions
    ≡ is_on (reading l.spot (flat l.sim)) (drop l.condition-index l.conditions)
