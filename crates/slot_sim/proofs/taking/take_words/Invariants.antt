use Rattle.std.proofs.Common.{◌≡◌, ◌+◌, drop, slice_index}
use Rattle.sim_layout.specs.Running.{IsSameNet}
use Rattle.slot_sim.specs.Taking.{taken, with_state}
use Rattle.slot_sim.proofs.taking.take_words.Given as goal

abbrev pub invariant-loop-number : goal.invariant-loop-number
invariant-loop-number l =
    IsSameNet l.sim l.other
    × (with_state l.initial.sim l.initial.sim.numbers (taken l.other.words l.initial.sim.words (slice_index l.other.starts (l.first + l.memory)) l.stored)
    ≡ with_state l.sim l.sim.numbers (taken l.other.words l.sim.words (slice_index l.other.starts (l.first + l.memory) + l.number) (drop l.number l.stored)))
