use Rattle.std.proofs.Common.{◌≡◌, length, false}
use Rattle.verilog_tree.specs.Tokens.{skip}
use Rattle.verilog_lexer.proofs.blanks.behind_blanks.Given as goal

abbrev pub invariant-loop-rest : goal.invariant-loop-rest
invariant-loop-rest l = skip l.in_comment l.rest ≡ skip false l.text

abbrev pub decreases-loop-rest : goal.decreases-loop-rest
decreases-loop-rest l = length l.rest
