use Rattle.std.proofs.Common.{◌≡◌, ◌+◌, length, false}
use Rattle.c_lexer.specs.Finding.{text_len}
use Rattle.c_lexer.proofs.lexeme.text_len.Given as goal

abbrev pub invariant-loop-rest : goal.invariant-loop-rest
invariant-loop-rest l = (text_len l.len l.escaped l.rest ≡ text_len 1 false l.z) × (l.len + length l.rest ≡ length l.z + 1)

abbrev pub decreases-loop-rest : goal.decreases-loop-rest
decreases-loop-rest l = length l.rest
