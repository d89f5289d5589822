use Rattle.std.proofs.Common.{arith}
use Rattle.std.proofs.lemmas.Grind.{common_steps}
use Rattle.c_lexer.specs.Finding.{text_len}
use Rattle.c_lexer.proofs.lexeme.text_len.Goals as goal

pub loop-rest-preserved : goal.loop-rest-preserved
unfolding text_len
loop-rest-preserved c = grind (arith, common_steps)
