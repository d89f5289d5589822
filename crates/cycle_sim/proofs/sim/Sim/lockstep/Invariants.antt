use Rattle.cycle_sim.specs.Lockstep.{IsTurned}
use Rattle.cycle_sim.proofs.sim.Sim.lockstep.Given as goal

abbrev pub invariant-loop-number : goal.invariant-loop-number
invariant-loop-number l = IsTurned l.fn.self l.self l.number l.fn.out l.out
