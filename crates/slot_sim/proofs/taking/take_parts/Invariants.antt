use Rattle.std.proofs.Common.{◌≡◌, drop}
use Rattle.sim_layout.specs.Running.{IsSameNet}
use Rattle.slot_sim.specs.Taking.{taken_numbers, taken_words, with_state}
use Rattle.slot_sim.proofs.taking.take_parts.Given as goal

abbrev pub invariant-loop-place : goal.invariant-loop-place
invariant-loop-place l =
    IsSameNet l.sim l.other
    × (with_state l.initial.sim (taken_numbers l.other.modules l.other.parts l.other.numbers l.initial.sim.numbers l.places)
    (taken_words l.other.modules l.other.parts l.other.starts l.other.words l.initial.sim.words l.places)
    ≡ with_state l.sim (taken_numbers l.other.modules l.other.parts l.other.numbers l.sim.numbers (drop l.place-index l.places))
    (taken_words l.other.modules l.other.parts l.other.starts l.other.words l.sim.words (drop l.place-index l.places)))
