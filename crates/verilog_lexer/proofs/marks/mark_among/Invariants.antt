use Rattle.std.proofs.Common.{◌≡◌, drop}
use Rattle.verilog_tree.specs.Tokens.{mark_among}
use Rattle.verilog_lexer.proofs.marks.mark_among.Given as goal

abbrev pub invariant-loop-mark : goal.invariant-loop-mark
invariant-loop-mark l = mark_among l.marks l.text ≡ mark_among (drop l.mark-index l.marks) l.text
