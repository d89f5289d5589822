use Rattle.std.proofs.Common.{◌≡◌, ◌+◌, drop}
use Rattle.sim_layout.specs.Running.{flat}
use Rattle.slot_sim.specs.Same.{memories_same}
use Rattle.slot_sim.proofs.same.same_memories.Given as goal

abbrev pub invariant-loop-number : goal.invariant-loop-number
invariant-loop-number l =
    memories_same (flat l.left) (flat l.right) l.first l.memories
    ≡ memories_same (flat l.left) (flat l.right) (l.first + l.number) (drop l.number l.memories)
