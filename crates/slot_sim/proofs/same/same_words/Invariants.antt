use Rattle.std.proofs.Common.{◌≡◌, ◌+◌, drop, slice_index}
use Rattle.slot_sim.specs.Same.{words_same}
use Rattle.slot_sim.proofs.same.same_words.Given as goal

abbrev pub invariant-loop-number : goal.invariant-loop-number
invariant-loop-number l =
    words_same l.left.words l.right.words (slice_index l.left.starts (l.first + l.memory)) (slice_index l.right.starts (l.first + l.memory)) l.stored
    ≡ words_same l.left.words l.right.words (slice_index l.left.starts (l.first + l.memory) + l.number) (slice_index l.right.starts (l.first + l.memory) + l.number) (drop l.number l.stored)
