use Rattle.std.proofs.Common.{arith}
use Rattle.std.proofs.lemmas.Grind.{common_steps}
use Rattle.net_rules.proofs.writes.+none.Goals as goal

pub all_write_none-loop-statement-preserved : goal.all_write_none-loop-statement-preserved
all_write_none-loop-statement-preserved t c = grind (arith, common_steps)
