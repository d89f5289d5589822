use Rattle.std.proofs.Common.{◌≡◌, sym, subst}
use Rattle.sim_layout.specs.Running.{running}
use Rattle.cycle_sim.specs.Lockstep.{TakesRounds}
use Rattle.cycle_sim.proofs.LockstepTurns.{takes_rounds}
use Rattle.cycle_sim.proofs.sim.Sim.all_enabled.Goals as goal

pub returns-clause-takes : goal.returns-clause-takes
returns-clause-takes c =
    let i = c.self.inside in
    let r = running i.modules.now i.parts.items i.steps.items i.numbers.items i.words.items i.starts.items i.prefs i.done in
    let view : c.args.self.now ≡ r = (let h = c.self.view_is in cc) in
    subst TakesRounds (sym view) (takes_rounds r c.self.invariant.0)
