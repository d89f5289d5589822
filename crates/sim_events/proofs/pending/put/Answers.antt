use Rattle.std.proofs.Common.{arith}
use Rattle.sim_events.proofs.PendingSteps.{keeping_put}
use Rattle.sim_events.proofs.pending.put.Goals as goal

pub returns-then-place-numbers-clause-keeping : goal.returns-then-place-numbers-clause-keeping
returns-then-place-numbers-clause-keeping c = λ modules steps is.
    keeping_put modules steps c.args.fanout.now.starts.items c.args.fanout.now.steps.items c.args.numbers.now c.args.pending.now.steps.items c.mark.new.pending.steps.items c.args.place c.args.number (omega arith) is c.mark.ensures.long c.mark.ensures.marked c.mark.ensures.keeps
