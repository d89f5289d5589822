use Rattle.sim_layout.specs.Rounds.{threads_of}
use Rattle.cycle_sim.specs.Lockstep.{AreRounds}
use Rattle.cycle_sim.proofs.sim.Sim.rounds.Given as goal

abbrev pub invariant-loop-preferred : goal.invariant-loop-preferred
invariant-loop-preferred l = AreRounds (threads_of l.self.modules) l.self.prefs l.preferred l.choices.items
