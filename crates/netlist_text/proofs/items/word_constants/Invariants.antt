use Rattle.std.proofs.Common.{◌≡◌, ◌++◌, take}
use Rattle.netlist_text.specs.LaidOut as laid
use Rattle.netlist_text.proofs.items.word_constants.Given as goal

abbrev pub invariant-loop-word : goal.invariant-loop-word
invariant-loop-word l = l.out ≡ l.fn.out ++ laid.with_places (laid.word_constant l.memory) 0 (take l.word l.memory.initial)
