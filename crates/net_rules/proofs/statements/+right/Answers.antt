use Rattle.std.proofs.Common.{arith}
use Rattle.std.proofs.lemmas.Grind.{common_steps}
use Rattle.net_rules.proofs.statements.+right.Goals as goal

pub statements_right-loop-statement-preserved : goal.statements_right-loop-statement-preserved
statements_right-loop-statement-preserved t c = grind (arith, common_steps)
