use Rattle.std.proofs.Common.{◌≡◌, ◌++◌, drop, length}
use Rattle.sim_layout.specs.Placed.{starts_in, words_in}
use Rattle.sim_layout.proofs.place.push_memories.Given as goal

abbrev pub invariant-loop-memory : goal.invariant-loop-memory
invariant-loop-memory l = record {
  starts : l.initial.starts.items ++ starts_in (length l.initial.words.items) l.memories ≡ l.starts.items ++ starts_in (length l.words.items) (drop l.memory-index l.memories);
  words : l.initial.words.items ++ words_in l.memories ≡ l.words.items ++ words_in (drop l.memory-index l.memories);
}
