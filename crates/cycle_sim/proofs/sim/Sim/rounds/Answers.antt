use Rattle.sim_layout.specs.Rounds.{threads_of}
use Rattle.cycle_sim.proofs.Choices.{choices_more}
use Rattle.cycle_sim.proofs.sim.Sim.rounds.Goals as goal

pub loop-preferred-preserved : goal.loop-preferred-preserved
loop-preferred-preserved c =
    choices_more (threads_of c.args.self.now.modules) c.args.self.now.prefs c.loop-preferred.preferred c.loop-preferred.choices.items c.push.new.self.items c.in_ok-choice.choice
    c.loop-preferred.invariant c.in_ok-choice.ensures c.in_ok-push.ensures.items
