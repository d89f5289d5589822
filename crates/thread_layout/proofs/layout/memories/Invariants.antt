use Rattle.std.proofs.Common.{◌≡◌, take}
use Rattle.thread_layout.specs.Memories.{memories_from}
use Rattle.thread_layout.proofs.layout.memories.Given as goal

abbrev pub invariant-loop-number : goal.invariant-loop-number
invariant-loop-number l = l.memories ≡ memories_from 0 (take l.number l.arrays)
