use Rattle.std.proofs.Common.{◌≡◌, ◌++◌, take, map}
use Rattle.netlist_text.specs.LaidOut as laid
use Rattle.netlist_text.proofs.items.memories.Given as goal

abbrev pub invariant-loop-one : goal.invariant-loop-one
invariant-loop-one l = l.out ≡ l.fn.out ++ map laid.memory_item (take l.one-index l.memories)
