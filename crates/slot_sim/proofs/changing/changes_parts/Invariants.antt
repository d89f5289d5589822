use Rattle.std.proofs.Common.{◌≡◌, drop}
use Rattle.sim_layout.specs.Running.{flat}
use Rattle.slot_sim.specs.Changing.{parts_change}
use Rattle.slot_sim.proofs.changing.changes_parts.Given as goal

abbrev pub invariant-loop-place : goal.invariant-loop-place
invariant-loop-place l =
    parts_change l.sim.modules l.sim.parts (flat l.sim) l.places
    ≡ parts_change l.sim.modules l.sim.parts (flat l.sim) (drop l.place-index l.places)
