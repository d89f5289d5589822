use Rattle.std.proofs.Common.{arith}
use Rattle.slot_sim.proofs.LockstepTurns.{net_refl, net_trans}
use Rattle.journal_laws.proofs.ClosedCycles.{none_passed, passed_more, stopped, ran_all}
use Rattle.journal_laws.proofs.copy_run.run_closed.Goals as goal

pub loop-done-init : goal.loop-done-init
loop-done-init c = record { net = net_refl c.args.sim.now; passed = none_passed c.args.sim.now c.threads.ensures.stands c.args.thread }

pub loop-done-preserved : goal.loop-done-preserved
loop-done-preserved c =
    let v = c.loop-done.invariant in
    let old = c.args.sim.now in
    let r = c.loop-done.sim in
    let s = c.need.new.self in
    let o = c.pass.ensures.cycle in record {
      net = net_trans old s c.pass.new.self (net_trans old r s v.net c.if-need.ensures.net) c.pass.ensures.net;
      passed = passed_more old r s c.args.thread c.loop-done.done c.requires.threaded c.requires.thread v.net v.passed c.if-need.ensures.net c.if-need.ensures.state
          c.if-need.ensures.need c.pass.new.self o.0 o.1;
    }

pub returns-then-need-clause-run : goal.returns-then-need-clause-run
returns-then-need-clause-run c =
    let v = c.loop-done.invariant in
    stopped c.args.sim.now c.loop-done.sim c.need.new.self c.args.thread c.loop-done.done c.requires.threaded c.requires.thread v.net v.passed c.if-need.ensures.net c.if-need.ensures.state
    c.threads.ensures.stands c.if-need.ensures.need c.args.most

pub returns-clause-run : goal.returns-clause-run
returns-clause-run c =
    ran_all c.args.sim.now c.loop-done.sim c.args.thread c.loop-done.done c.args.most c.threads.ensures.stands c.loop-done.invariant.passed (omega arith)
