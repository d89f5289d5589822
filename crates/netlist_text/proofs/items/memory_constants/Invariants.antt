use Rattle.std.proofs.Common.{◌≡◌, ◌++◌, take}
use Rattle.std.specs.List.{flat_map}
use Rattle.netlist_text.specs.LaidOut as laid
use Rattle.netlist_text.proofs.items.memory_constants.Given as goal

abbrev pub invariant-loop-memory : goal.invariant-loop-memory
invariant-loop-memory l = l.out ≡ l.fn.out ++ flat_map laid.memory_constants (take l.memory-index l.memories)
