use Rattle.std.proofs.Common.{List, sym, subst}
use Rattle.netlist.specs.declared.netlist.Module.{Module}
use Rattle.sim_layout.specs.Rounds.{threads_of}
use Rattle.slot_sim.specs.Slots.{IsThreadedIn}
use Rattle.journal_laws.proofs.Alike.{state_trans, preferred_first, mover_wrapped}
use Rattle.journal_laws.proofs.judge.mover.Goals as goal

pub returns-in-Some-clause-found : goal.returns-in-Some-clause-found
returns-in-Some-clause-found c = preferred_first c.args.sim.now c.args.prefer c.threads-threads.result c.in-Some.thread c.threads-threads.ensures.threads c.in-Some.ensures.first

pub first_mover-requires-2-clause-threaded : goal.first_mover-requires-2-clause-threaded
first_mover-requires-2-clause-threaded c = subst (λ (ms : List Module). IsThreadedIn ms (threads_of ms)) (sym c.in_default.ensures.net.modules) c.requires.threaded

pub returns-clause-found : goal.returns-clause-found
returns-clause-found c =
    let f = c.in_default.ensures in
    mover_wrapped c.args.sim.now c.first_mover.new.sim f.net f.state c.args.prefer c.threads-threads.result c.threads-threads.ensures.threads f.first c.first_mover-2.result c.requires.prefer
    c.first_mover-2.ensures.first

pub returns-clause-state : goal.returns-clause-state
returns-clause-state c =
    let f = c.in_default.ensures in state_trans c.args.sim.now c.first_mover.new.sim c.first_mover-2.new.sim f.net f.state c.first_mover-2.ensures.state
