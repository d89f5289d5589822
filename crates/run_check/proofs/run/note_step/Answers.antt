use Rattle.std.proofs.Common.{refl}
use Rattle.run_check.proofs.run.note_step.Goals as goal

pub returns-in-Unordered : goal.returns-in-Unordered
returns-in-Unordered c = let y = rw c.in-Unordered.is at c.in_ok-note.ensures in (refl, y)
