use Rattle.std.proofs.Common.{arith, ◌∙◌}
use Rattle.std.proofs.lemmas.Grind.{common_steps}
use Rattle.std.proofs.lemmas.List.{take_all}
use Rattle.schedule_sdc.proofs.least.narrowed.Goals as goal

pub loop-start-preserved : goal.loop-start-preserved
loop-start-preserved c = grind (arith, common_steps)

pub returns : goal.returns
returns c = c.loop-start.invariant ∙ take_all c.loop-start.start-index c.args.starts.now (omega (arith, c.loop-start-test.false))
