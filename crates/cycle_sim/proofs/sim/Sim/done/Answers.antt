use Rattle.sim_layout.specs.Running.{choice_of}
use Rattle.cycle_sim.proofs.LockstepTurns.{net_refl, fits_all}
use Rattle.cycle_sim.proofs.sim.Sim.done.Goals as goal

pub shows_done-requires : goal.shows_done-requires
shows_done-requires c =
    fits_all c.args.self.now c.args.self.now c.all_enabled-choice.ensures.takes (net_refl c.args.self.now) (choice_of c.all_enabled-choice.result) c.all_enabled-choice.ensures.choice
