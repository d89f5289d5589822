use Rattle.std.proofs.Common.{◌≡◌, true}
use Rattle.verilog_tree.specs.Facts as fact
use Rattle.net_check.proofs.facts.words_below.Given as goal

abbrev pub invariant-loop-word : goal.invariant-loop-word
invariant-loop-word l = fact.words_below l.given l.name l.word ≡ true
