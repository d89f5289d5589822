use Rattle.std.proofs.Common.{List, sym, subst}
use Rattle.netlist.specs.declared.netlist.Module.{Module}
use Rattle.sim_layout.specs.Rounds.{threads_of}
use Rattle.cycle_sim.proofs.LockstepTurns.{net_trans}
use Rattle.slot_sim.specs.Slots.{IsThreadedIn}
use Rattle.journal_replay.proofs.RedoneEntries.{done_more, cannot_more}
use Rattle.journal_replay.proofs.steps.redo_steps.Goals as goal

pub may_step-requires-clause-threaded : goal.may_step-requires-clause-threaded
may_step-requires-clause-threaded c = subst (λ (ms : List Module). IsThreadedIn ms (threads_of ms)) (sym c.loop-turn.invariant.net.modules) c.requires.threaded

pub returns-then-not-may_step-clause-redone : goal.returns-then-not-may_step-clause-redone
returns-then-not-may_step-clause-redone c =
    let v = c.loop-turn.invariant in
    cannot_more c.args.sim.now c.loop-turn.sim c.threads.ensures.stands c.args.thread c.args.is_open c.loop-turn._turn c.requires.threaded c.requires.thread v.net
    c.args.output.now c.loop-turn.output v.done
    c.if-not-may_step.ensures.may c.args.count c.loop-turn-test.true

pub loop-turn-preserved : goal.loop-turn-preserved
loop-turn-preserved c =
    let v = c.loop-turn.invariant in
    let m = c.if-not-may_step.ensures in
    let y = c.in_ok-cycle.ensures in
    let old = c.args.sim.now in
    let r = c.loop-turn.sim in
    let s = c.may_step.new.sim in
    let new = c.cycle.new.self in
    record {
      net = net_trans old s new (net_trans old r s v.net m.net) y.net;
      done = done_more old r c.threads.ensures.stands c.args.thread c.args.is_open c.loop-turn._turn c.requires.threaded c.requires.thread v.net c.args.output.now
          c.loop-turn.output v.done m.may s m.net m.state new
          c.cycle.new.out y.ok;
    }
