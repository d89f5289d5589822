use Rattle.std.proofs.Common.{length}
use Rattle.netlist_text.proofs.statements.+guarded.Given as goal

abbrev pub decreases-guarded : goal.decreases-guarded
decreases-guarded l = length l.conditions.now
