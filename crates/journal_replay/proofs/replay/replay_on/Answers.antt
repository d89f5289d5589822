use Rattle.std.proofs.Common.{List, ◌∙◌, sym, subst, arith}
use Rattle.std.proofs.lemmas.List.{take_all}
use Rattle.netlist.specs.declared.netlist.Module.{Module}
use Rattle.sim_layout.specs.Rounds.{threads_of}
use Rattle.journal_text.specs.declared.entry.Entry.{Entry}
use Rattle.cycle_sim.proofs.LockstepTurns.{net_trans}
use Rattle.slot_sim.specs.Slots.{IsThreadedIn}
use Rattle.journal_replay.proofs.Entries.{none_said, some_said, few_cycles}
use Rattle.journal_replay.proofs.Replayed.{AreSoFar, more_so_far, bad_entry, replayed}
use Rattle.journal_replay.proofs.replay.replay_on.Goals as goal

pub redo-requires : goal.redo-requires
redo-requires c = record { threaded = subst (λ (ms : List Module). IsThreadedIn ms (threads_of ms)) (sym (c.loop-number.invariant.net.modules ∙ c.requires.begins.net)) c.requires.threaded }

pub returns-in-None : goal.returns-in-None
returns-in-None c =
    let v = c.loop-number.invariant in
    bad_entry c.args.sim.now c.loop-number.sim v.net c.args.journal.now c.loop-number.number c.loop-number.output c.loop-number.cycles v.so c.loop-number-test.true _
    c.args.modules.now c.requires.begins.net (none_said _ _ _ _ c.in-None.is c.in_ok-more.ensures.redone)

pub loop-number-preserved : goal.loop-number-preserved
loop-number-preserved c =
    let v = c.loop-number.invariant in
    let m = c.in_ok-more.ensures in
    let first = c.args.sim.now in
    let r = c.loop-number.sim in
    let more = c.in-Some.more in
    let done = some_said _ _ more _ _ c.in-Some.is m.redone in
    let few = v.few in
    let here = few_cycles r _ _ _ _ _ more done in
    record {
      net = net_trans first r c.redo.new.sim v.net m.net;
      so = more_so_far first r v.net c.args.journal.now c.loop-number.number c.loop-number.output c.loop-number.cycles v.so c.loop-number-test.true _ c.redo.new.sim
          c.redo.new.output more done;
      few = omega (arith, few, here);
    }

pub judge-requires-clause-threaded : goal.judge-requires-clause-threaded
judge-requires-clause-threaded c =
    subst (λ (ms : List Module). IsThreadedIn ms (threads_of ms)) (sym (c.loop-number.invariant.net.modules ∙ c.requires.begins.net)) c.requires.threaded

pub returns : goal.returns
returns c =
    let v = c.loop-number.invariant in
    let past = c.loop-number-test.false in
    replayed c.args.sim.now c.loop-number.sim v.net c.args.modules.now c.requires.begins.net c.args.journal.now c.loop-number.output c.loop-number.cycles
    (subst (λ (j : List Entry). AreSoFar c.args.sim.now c.loop-number.sim j c.loop-number.output c.loop-number.cycles)
    (take_all c.loop-number.number c.args.journal.now (omega (arith, past))) v.so)
    c.in-Ended.verdict c.in-Ended.ensures.verdict
