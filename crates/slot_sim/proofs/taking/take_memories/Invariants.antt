use Rattle.std.proofs.Common.{◌≡◌, ◌+◌, drop}
use Rattle.sim_layout.specs.Running.{IsSameNet}
use Rattle.slot_sim.specs.Taking.{taken_memories, with_state}
use Rattle.slot_sim.proofs.taking.take_memories.Given as goal

abbrev pub invariant-loop-number : goal.invariant-loop-number
invariant-loop-number l =
    IsSameNet l.sim l.other
    × (with_state l.initial.sim l.initial.sim.numbers (taken_memories l.other.words l.initial.sim.words l.other.starts l.first l.memories)
    ≡ with_state l.sim l.sim.numbers (taken_memories l.other.words l.sim.words l.other.starts (l.first + l.number) (drop l.number l.memories)))
