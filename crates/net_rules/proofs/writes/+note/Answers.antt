use Rattle.std.proofs.Common.{arith}
use Rattle.std.proofs.lemmas.Grind.{common_steps}
use Rattle.net_rules.proofs.writes.+note.Goals as goal

pub note_all_writes-loop-statement-preserved : goal.note_all_writes-loop-statement-preserved
note_all_writes-loop-statement-preserved t c = grind (arith, common_steps)
