use Rattle.std.proofs.Common.{length, ◌≤◌, false}
use Rattle.verilog_tree.specs.Tokens.{skip}
use Rattle.verilog_lexer.specs.Lexed.{Lexes}
use Rattle.verilog_lexer.proofs.tokens.lex.Given as goal

abbrev pub invariant-tokens : goal.invariant-tokens
invariant-tokens l = Lexes (length l.text) (skip false l.text) l.tokens l.starts l.rest × (length l.rest ≤ length l.text)

abbrev pub decreases-tokens : goal.decreases-tokens
decreases-tokens l = length l.rest
