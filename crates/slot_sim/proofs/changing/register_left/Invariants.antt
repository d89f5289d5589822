use Rattle.std.proofs.Common.{◌≡◌, drop}
use Rattle.verilog_meaning.specs.Readings.{register_after}
use Rattle.sim_values.specs.Flat.{reading}
use Rattle.sim_layout.specs.Running.{flat}
use Rattle.slot_sim.proofs.changing.register_left.Given as goal

abbrev pub invariant-loop-action : goal.invariant-loop-action
invariant-loop-action l =
    register_after (reading l.spot (flat l.sim)) l.actions l.register l.held
    ≡ register_after (reading l.spot (flat l.sim)) (drop l.action-index l.actions) l.register l.left
