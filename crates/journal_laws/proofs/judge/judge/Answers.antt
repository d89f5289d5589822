use Rattle.journal_laws.proofs.Alike.{state_trans, judged_done, judged_stuck, judged_entries, judged_none}
use Rattle.journal_laws.proofs.judge.judge.Goals as goal

pub returns-then-done-clause-verdict : goal.returns-then-done-clause-verdict
returns-then-done-clause-verdict c =
    let f = c.mover-found.ensures in
    judged_done c.args.sim.now c.mover-found.new.sim f.stands f.net f.state c.requires.threaded c.args.entries c.args.most c.if-done.ensures.done

pub returns-then-done-clause-state : goal.returns-then-done-clause-state
returns-then-done-clause-state c =
    let f = c.mover-found.ensures in state_trans c.args.sim.now c.mover-found.new.sim c.done.new.self f.net f.state c.if-done.ensures.state

pub returns-in_default-clause-verdict : goal.returns-in_default-clause-verdict
returns-in_default-clause-verdict c =
    let f = c.mover-found.ensures in
    judged_stuck c.args.sim.now c.mover-found.new.sim f.stands f.net f.state c.requires.threaded c.args.entries c.args.most c.if-done.ensures.done
    (λ k low l m. c.in_default.ensures.found k l m)

pub returns-in_default-clause-state : goal.returns-in_default-clause-state
returns-in_default-clause-state c =
    let f = c.mover-found.ensures in state_trans c.args.sim.now c.mover-found.new.sim c.done.new.self f.net f.state c.if-done.ensures.state

pub returns-then-entries-most-clause-verdict : goal.returns-then-entries-most-clause-verdict
returns-then-entries-most-clause-verdict c =
    let f = c.mover-found.ensures in
    let i = c.in-Some.thread in
    judged_entries c.args.sim.now c.mover-found.new.sim f.stands f.net f.state c.requires.threaded c.args.entries c.args.most i c.if-done.ensures.done
    c.in-Some.ensures.found.within c.in-Some.ensures.found.moves c.if-entries-most.true

pub returns-then-entries-most-clause-state : goal.returns-then-entries-most-clause-state
returns-then-entries-most-clause-state c =
    let f = c.mover-found.ensures in state_trans c.args.sim.now c.mover-found.new.sim c.done.new.self f.net f.state c.if-done.ensures.state

pub returns-clause-verdict : goal.returns-clause-verdict
returns-clause-verdict c =
    let f = c.mover-found.ensures in
    let i = c.in-Some.thread in
    judged_none c.args.sim.now c.mover-found.new.sim f.stands f.net f.state c.requires.threaded c.args.entries c.args.most i c.if-done.ensures.done
    c.in-Some.ensures.found.within c.in-Some.ensures.found.moves c.if-entries-most.false

pub returns-clause-state : goal.returns-clause-state
returns-clause-state c =
    let f = c.mover-found.ensures in state_trans c.args.sim.now c.mover-found.new.sim c.done.new.self f.net f.state c.if-done.ensures.state
