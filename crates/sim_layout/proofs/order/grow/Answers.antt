use Rattle.std.proofs.Common.{arith}
use Rattle.sim_layout.proofs.OrderGrowth.{grown_held}
use Rattle.sim_layout.proofs.order.grow.Goals as goal

pub returns-then-place-len-clause-held : goal.returns-then-place-len-clause-held
returns-then-place-len-clause-held c =
    grown_held c.args.modules.now c.args.wires.now c.args.free.now c.loop-place.place c.loop-place.growth (omega arith) c.loop-place.invariant
