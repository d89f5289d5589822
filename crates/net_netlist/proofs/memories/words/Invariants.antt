use Rattle.std.proofs.Common.{◌≡◌, ◌-◌, ◌++◌}
use Rattle.netlist.specs.NetlistOf.{words_of}
use Rattle.net_netlist.proofs.memories.words.Given as goal

abbrev pub invariant-loop-word : goal.invariant-loop-word
invariant-loop-word l = l.words ++ words_of l.initials l.name l.word (l.count - l.word) ≡ words_of l.initials l.name 0 l.count
