use Rattle.std.proofs.Common.{arith}
use Rattle.std.proofs.lemmas.Grind.{common_steps}
use Rattle.top_parts.proofs.parts.ask_widths.Goals as goal

pub loop-group-preserved : goal.loop-group-preserved
loop-group-preserved c = grind (arith, common_steps)
