use Rattle.std.proofs.Common.{arith}
use Rattle.std.proofs.lemmas.Grind.{common_steps}
use Rattle.net_rules.proofs.writes.+prints.Goals as goal

pub any_prints-loop-statement-preserved : goal.any_prints-loop-statement-preserved
any_prints-loop-statement-preserved t c = grind (arith, common_steps)
