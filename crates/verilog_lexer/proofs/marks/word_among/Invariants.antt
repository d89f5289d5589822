use Rattle.std.proofs.Common.{◌≡◌, drop}
use Rattle.verilog_tree.specs.Spelling.{word_among}
use Rattle.verilog_lexer.proofs.marks.word_among.Given as goal

abbrev pub invariant-loop-word : goal.invariant-loop-word
invariant-loop-word l = word_among l.words l.text ≡ word_among (drop l.word-index l.words) l.text
