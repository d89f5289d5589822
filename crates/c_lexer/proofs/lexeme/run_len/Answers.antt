use Rattle.std.proofs.Common.{arith}
use Rattle.std.proofs.lemmas.Grind.{common_steps}
use Rattle.c_lexer.specs.Finding.{run_len}
use Rattle.c_lexer.proofs.lexeme.run_len.Goals as goal

pub loop-rest-preserved : goal.loop-rest-preserved
unfolding run_len
loop-rest-preserved c = grind (arith, common_steps)
