use Rattle.std.proofs.Common.{◌≡◌, drop}
use Rattle.sim_values.specs.Flat.{reading}
use Rattle.sim_layout.specs.Running.{flat}
use Rattle.slot_sim.specs.Changing.{changes}
use Rattle.slot_sim.proofs.changing.changes_in.Given as goal

abbrev pub invariant-loop-number : goal.invariant-loop-number
invariant-loop-number l =
    changes l.module (reading l.spot (flat l.sim)) l.module.actions
    ≡ changes l.module (reading l.spot (flat l.sim)) (drop l.number l.module.actions)
