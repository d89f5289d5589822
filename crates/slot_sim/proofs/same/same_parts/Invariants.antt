use Rattle.std.proofs.Common.{◌≡◌, drop}
use Rattle.sim_layout.specs.Running.{flat}
use Rattle.slot_sim.specs.Same.{parts_same}
use Rattle.slot_sim.proofs.same.same_parts.Given as goal

abbrev pub invariant-loop-place : goal.invariant-loop-place
invariant-loop-place l =
    parts_same l.left.modules l.left.parts (flat l.left) (flat l.right) l.places
    ≡ parts_same l.left.modules l.left.parts (flat l.left) (flat l.right) (drop l.place-index l.places)
