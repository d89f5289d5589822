use Rattle.std.proofs.Common.{arith}
use Rattle.cycle_sim.proofs.LockstepTurns.{net_refl, fits_all, fits_round}
use Rattle.simulator_tests.proofs.tests.shows.Goals as goal

pub cycle-requires : goal.cycle-requires
cycle-requires c =
    fits_round c.args.sim.now c.args.sim.now c.all_enabled-all.ensures.takes (net_refl c.args.sim.now) _ 5 c.in_ok-choice.ensures (omega arith)

pub shows_done-requires : goal.shows_done-requires
shows_done-requires c =
    fits_all c.args.sim.now c.cycle.new.self c.all_enabled-all.ensures.takes c.in_ok-cycle.ensures.net _ c.all_enabled-all.ensures.choice
