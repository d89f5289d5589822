use Rattle.sim_layout.specs.Growing.{IsGrowing}
use Rattle.sim_layout.proofs.order.grow.Given as goal

abbrev pub invariant-loop-place : goal.invariant-loop-place
invariant-loop-place l = IsGrowing l.modules l.wires l.free l.place l.growth
