use Rattle.std.proofs.Common.{take, length}
use Rattle.code_merge.proofs.Marks.{Marked}
use Rattle.code_merge.proofs.leading.led_to.Given as goal

abbrev pub invariant-loop-stage : goal.invariant-loop-stage
invariant-loop-stage l = Marked (length l.stages) (take l.stage-index l.stages) l.led
