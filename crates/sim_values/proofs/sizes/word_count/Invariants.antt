use Rattle.std.proofs.Common.{◌≡◌, take, sum_by}
use Rattle.sim_values.specs.Sizes.{capped, words}
use Rattle.sim_values.proofs.sizes.word_count.Given as goal

abbrev pub invariant-loop-memory : goal.invariant-loop-memory
invariant-loop-memory l = l.total ≡ capped (sum_by words (take l.memory-index l.memories))
