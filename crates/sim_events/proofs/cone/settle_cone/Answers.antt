use Rattle.std.proofs.Common.{arith}
use Rattle.std.proofs.lemmas.Grind.{common_steps}
use Rattle.sim_events.proofs.cone.settle_cone.Goals as goal

pub loop-step-preserved : goal.loop-step-preserved
loop-step-preserved c = record {
  settled = grind (arith, common_steps);
  keeping = λ all steps is. c.settle_step.ensures.keeping all steps (c.loop-step.invariant.keeping all steps is);
  flagged = c.settle_step.ensures.flagged;
}

pub returns-clause-keeping : goal.returns-clause-keeping
returns-clause-keeping c = c.loop-step.invariant.keeping

pub returns-clause-flagged : goal.returns-clause-flagged
returns-clause-flagged c = c.loop-step.invariant.flagged
