use Rattle.std.proofs.Common.{◌≡◌, ◌++◌, take}
use Rattle.std.specs.List.{flat_map}
use Rattle.net_report.specs.Net.{memory_line}
use Rattle.net_report.proofs.put_memories.Given as goal

abbrev pub invariant-loop-memory : goal.invariant-loop-memory
invariant-loop-memory l = l.out ≡ l.fn.out ++ flat_map memory_line (take l.memory-index l.memories)
