use Rattle.std.specs.Prelude.{◌≡◌, ℕ, ◌≤◌, List, length, None, Some, vec_capacity}
use Rattle.std.proofs.Common.{ap, sym, ◌∙◌, subst, arith, rules, refl}
use Rattle.sim_layout.specs.Rounds.{threads_of}
use Rattle.sim_layout.specs.Running.{Running, IsSameNet}
use Rattle.sim_layout.proofs.Calls.{on_err}
use Rattle.cycle_sim.proofs.LockstepTurns.{net_trans}
use Rattle.slot_sim.specs.Slots.{IsSameSlotOf}
use Rattle.journal_laws.specs.declared.verdict.Answer.TheVariants as answers
use Rattle.journal_laws.specs.Steps.{InTop}
use Rattle.journal_laws.proofs.EntrySlots.{same_top}
use Rattle.grant_journal.specs.Boards.{IsPrinting, Keeps}
use Rattle.grant_journal.proofs.Framed.{net_between, threaded_in, below, within}
use Rattle.grant_journal.proofs.BoardKept.{keeps_on}
use Rattle.grant_journal.proofs.Offers.{judged_as}
use Rattle.grant_journal.proofs.Commits.{given_ended, given_stale, given_waits, given_committed, given_as, printing, printing_as}
use Rattle.grant_journal.proofs.Commits.{keeps_entered, free, running, copy_on, waiting_of, making_of, same_of, opening_of}
use Rattle.grant_journal.proofs.board.Board.commit.Goals as goal

pub judge-requires-clause-prefer : goal.judge-requires-clause-prefer
judge-requires-clause-prefer g c =
    let k = c.self.invariant.1 in
    within g.J.Case.modules g.J.Case.threads g.J.Case.layout k.frame c.self.inside.sim k.net c.args.thread (let l = c.requires.thread in omega (arith, l))

pub judge-requires-clause-threaded : goal.judge-requires-clause-threaded
judge-requires-clause-threaded g c =
    let k = c.self.invariant.1 in threaded_in g.J.Case.modules g.J.Case.threads g.J.Case.layout k.frame c.self.inside.sim k.net

pub invariant_of-self : goal.invariant_of-self
invariant_of-self g c =
    let b = c.self.inside in
    let j = c.judge.ensures in (
      c.self.invariant.0,
      keeps_on g.J.Case.modules g.J.Case.threads g.J.Case.most g.J.Case.layout b.sim b.journal.items (vec_capacity b.journal) b.output c.self.invariant.1
          c.judge.new.sim j.net (same_top b.sim c.judge.new.sim j.state),
    )

pub returns-in-Ended-clause-given : goal.returns-in-Ended-clause-given
returns-in-Ended-clause-given g c =
    let b = c.self.inside in
    let v : b.journal.items ≡ c.args.self.now = (let h = c.self.view_is in cc) in
    given_as g.J.Case.modules g.J.Case.threads g.J.Case.most c.args.thread c.args.start.now c.args.closed b.journal.items c.args.self.now c.args.local.now b.journal.items c.args.local.now
    (answers.Ended c.in-Ended.verdict) v
    (given_ended g.J.Case.modules g.J.Case.threads g.J.Case.most g.J.Case.layout b.sim b.journal.items (vec_capacity b.journal) b.output c.self.invariant.1 c.in-Ended.verdict
    (judged_as b.sim (length c.as_slice.result.now) b.most (Some c.in-Ended.verdict) (length b.journal.items) g.J.Case.most
    (ap length c.as_slice.ensures.value) c.self.invariant.0 c.in-Ended.ensures.verdict)
    c.args.thread c.args.start.now c.args.closed c.args.local.now)

pub same_slot-requires-clause-thread : goal.same_slot-requires-clause-thread
same_slot-requires-clause-thread g c =
    let k = c.self.invariant.1 in
    below g.J.Case.modules g.J.Case.threads g.J.Case.layout k.frame c.judge.new.sim (net_trans g.J.Case.layout c.self.inside.sim c.judge.new.sim k.net
    c.judge.ensures.net) c.args.thread c.requires.thread

pub same_slot-requires-clause-net : goal.same_slot-requires-clause-net
same_slot-requires-clause-net g c =
    let k = c.self.invariant.1 in
    subst (λ (r : Running). IsSameNet c.judge.new.sim r) (sym c.sim.ensures.run)
    (net_between g.J.Case.layout c.judge.new.sim c.args.start.now.run (net_trans g.J.Case.layout c.self.inside.sim c.judge.new.sim k.net c.judge.ensures.net) c.sim.ensures.net)

pub hold-requires-clause-thread : goal.hold-requires-clause-thread
hold-requires-clause-thread g c = c.requires.thread

pub hold-requires-clause-net : goal.hold-requires-clause-net
hold-requires-clause-net g c = let k = c.self.invariant.1 in net_trans g.J.Case.layout c.self.inside.sim c.judge.new.sim k.net c.judge.ensures.net

pub invariant_of-self-then-not-same_slot : goal.invariant_of-self-then-not-same_slot
invariant_of-self-then-not-same_slot g c =
    let b = c.self.inside in
    let j = c.judge.ensures in (
      c.self.invariant.0,
      keeps_on g.J.Case.modules g.J.Case.threads g.J.Case.most g.J.Case.layout b.sim b.journal.items (vec_capacity b.journal) b.output c.self.invariant.1
          c.judge.new.sim j.net (same_top b.sim c.judge.new.sim j.state),
    )

pub returns-then-not-same_slot-clause-given : goal.returns-then-not-same_slot-clause-given
returns-then-not-same_slot-clause-given g c =
    let b = c.self.inside in
    let j = c.judge.ensures in
    let v : b.journal.items ≡ c.args.self.now = (let h = c.self.view_is in cc) in
    given_as g.J.Case.modules g.J.Case.threads g.J.Case.most c.args.thread c.args.start.now c.args.closed b.journal.items c.args.self.now c.args.local.now
    b.journal.items c.hold.new.self answers.Stale v
    (given_stale g.J.Case.modules g.J.Case.threads g.J.Case.most g.J.Case.layout b.sim b.journal.items (vec_capacity b.journal) b.output c.self.invariant.1
    (judged_as b.sim (length c.as_slice.result.now) b.most None (length b.journal.items) g.J.Case.most (ap length c.as_slice.ensures.value) c.self.invariant.0 c.in_default.ensures.verdict)
    c.judge.new.sim j.net j.state c.args.thread c.args.start.now c.requires.run.starts
    (subst (λ (r : Running). IsSameSlotOf (threads_of c.judge.new.sim.modules) c.args.thread c.judge.new.sim r → ⊥) c.sim.ensures.run c.if-not-same_slot.ensures)
    c.args.closed c.args.local.now c.hold.new.self c.hold.ensures)

pub enter-requires-clause-thread : goal.enter-requires-clause-thread
enter-requires-clause-thread g c =
    let k = c.self.invariant.1 in
    below g.J.Case.modules g.J.Case.threads g.J.Case.layout k.frame c.judge.new.sim (net_trans g.J.Case.layout c.self.inside.sim c.judge.new.sim k.net
    c.judge.ensures.net) c.args.thread c.requires.thread

pub enter-requires-clause-threaded : goal.enter-requires-clause-threaded
enter-requires-clause-threaded g c =
    let k = c.self.invariant.1 in
    threaded_in g.J.Case.modules g.J.Case.threads g.J.Case.layout k.frame c.judge.new.sim (net_trans g.J.Case.layout c.self.inside.sim c.judge.new.sim k.net c.judge.ensures.net)

pub enter-requires-clause-net : goal.enter-requires-clause-net
enter-requires-clause-net g c =
    let k = c.self.invariant.1 in
    let n = net_trans g.J.Case.layout c.self.inside.sim c.judge.new.sim k.net c.judge.ensures.net in (
      subst (λ (r : Running). IsSameNet c.judge.new.sim r) (sym c.sim-2.ensures.run) (net_between g.J.Case.layout c.judge.new.sim c.args.start.now.run n c.sim-2.ensures.net),
      subst (λ (r : Running). IsSameNet c.judge.new.sim r) (sym c.sim-3.ensures.run) (net_between g.J.Case.layout c.judge.new.sim c.args.local.now.run n c.sim-3.ensures.net),
    )

pub enter-requires-clause-running : goal.enter-requires-clause-running
enter-requires-clause-running g c =
    let b = c.self.inside in
    let j = c.judge.ensures in
    running g.J.Case.modules g.J.Case.threads g.J.Case.most g.J.Case.layout b.sim b.journal.items (vec_capacity b.journal) b.output c.self.invariant.1
    (judged_as b.sim (length c.as_slice.result.now) b.most None (length b.journal.items) g.J.Case.most (ap length c.as_slice.ensures.value) c.self.invariant.0 c.in_default.ensures.verdict)
    c.judge.new.sim j.net j.state

pub enter-requires-clause-most : goal.enter-requires-clause-most
enter-requires-clause-most g c = c.requires.most

pub enter-requires-clause-start : goal.enter-requires-clause-start
enter-requires-clause-start g c =
    subst (λ (r : Running). IsSameSlotOf (threads_of c.judge.new.sim.modules) c.args.thread c.judge.new.sim r) (c.sim.ensures.run ∙ sym c.sim-2.ensures.run) c.if-not-same_slot.ensures

pub enter-requires-clause-run : goal.enter-requires-clause-run
enter-requires-clause-run g c =
    let b = c.self.inside in
    let j = c.judge.ensures in
    copy_on g.J.Case.modules g.J.Case.threads g.J.Case.most g.J.Case.layout b.sim b.journal.items (vec_capacity b.journal) b.output c.self.invariant.1
    (judged_as b.sim (length c.as_slice.result.now) b.most None (length b.journal.items) g.J.Case.most (ap length c.as_slice.ensures.value) c.self.invariant.0 c.in_default.ensures.verdict)
    c.judge.new.sim j.net j.state c.args.thread c.args.closed c.args.start.now.run c.args.local.now.run c.sim-2.result.now
    c.sim-3.result.now c.sim-2.ensures.run c.sim-3.ensures.run
    c.requires.run.run

pub invariant_of-self-in_err-entered : goal.invariant_of-self-in_err-entered
invariant_of-self-in_err-entered g c =
    let b = c.self.inside in
    let j = c.judge.ensures in
    let x = c.in_err-entered.ensures in (
      c.self.invariant.0,
      subst
          (λ (o : List ℕ). Keeps g.J.Case.modules g.J.Case.threads g.J.Case.most g.J.Case.layout c.enter.new.sim b.journal.items (vec_capacity b.journal) o)
          (sym x.bytes)
          (keeps_on g.J.Case.modules g.J.Case.threads g.J.Case.most g.J.Case.layout c.judge.new.sim b.journal.items (vec_capacity b.journal) b.output
          (keeps_on g.J.Case.modules g.J.Case.threads g.J.Case.most g.J.Case.layout b.sim b.journal.items (vec_capacity b.journal) b.output
          c.self.invariant.1 c.judge.new.sim j.net (same_top b.sim c.judge.new.sim j.state))
          c.enter.new.sim x.net (same_top c.judge.new.sim c.enter.new.sim x.state)),
    )

pub returns-in_err-entered-clause-given : goal.returns-in_err-entered-clause-given
returns-in_err-entered-clause-given g c = search rules

pub returns-in_err-entered-clause-prints : goal.returns-in_err-entered-clause-prints
returns-in_err-entered-clause-prints g c =
    let b = c.self.inside in
    let j = c.judge.ensures in
    let v : b.journal.items ≡ c.args.self.now = (let h = c.self.view_is in cc) in
    on_err c.from_residual.result (InTop g.J.Case.modules (λ top. IsPrinting g.J.Case.modules top g.J.Case.threads g.J.Case.most c.args.thread c.args.start.now c.args.self.now c.args.local.now))
    (printing_as g.J.Case.modules g.J.Case.threads g.J.Case.most c.args.thread c.args.start.now b.journal.items c.args.self.now c.args.local.now v
    (printing g.J.Case.modules g.J.Case.threads g.J.Case.most g.J.Case.layout b.sim b.journal.items (vec_capacity b.journal) b.output c.self.invariant.1
    (judged_as b.sim (length c.as_slice.result.now) b.most None (length b.journal.items) g.J.Case.most (ap length c.as_slice.ensures.value) c.self.invariant.0 c.in_default.ensures.verdict)
    c.judge.new.sim j.net j.state c.args.thread c.args.start.now c.requires.run.starts
    (subst (λ (r : Running). IsSameSlotOf (threads_of c.judge.new.sim.modules) c.args.thread c.judge.new.sim r) c.sim.ensures.run c.if-not-same_slot.ensures) c.args.local.now
    (opening_of c.judge.new.sim c.sim-3.result.now c.args.local.now.run c.args.thread c.sim-3.ensures.run c.in_err-entered.ensures.prints)))

pub returns-in_err-entered-clause-journal : goal.returns-in_err-entered-clause-journal
returns-in_err-entered-clause-journal g c =
    let b = c.self.inside in
    let v : b.journal.items ≡ c.args.self.now = (let h = c.self.view_is in cc) in on_err c.from_residual.result (b.journal.items ≡ c.args.self.now) v

pub returns-in_err-entered-clause-local : goal.returns-in_err-entered-clause-local
returns-in_err-entered-clause-local g c = on_err c.from_residual.result (c.args.local.now ≡ c.args.local.now) refl

pub invariant_of-self-in_default-entered : goal.invariant_of-self-in_default-entered
invariant_of-self-in_default-entered g c =
    let b = c.self.inside in
    let j = c.judge.ensures in
    let x = c.in_ok-entered.ensures in
    let w = waiting_of c.judge.new.sim c.enter.new.sim c.sim-3.result.now c.args.local.now.run c.sim-3.ensures.run c.args.thread c.args.closed b.output
    c.enter.new.output c.in_ok-entered.entered x.entered c.in_default-entered.is in (
      c.self.invariant.0,
      subst
          (λ (o : List ℕ). Keeps g.J.Case.modules g.J.Case.threads g.J.Case.most g.J.Case.layout c.enter.new.sim b.journal.items (vec_capacity b.journal) o)
          (sym w.1)
          (keeps_on g.J.Case.modules g.J.Case.threads g.J.Case.most g.J.Case.layout c.judge.new.sim b.journal.items (vec_capacity b.journal) b.output
          (keeps_on g.J.Case.modules g.J.Case.threads g.J.Case.most g.J.Case.layout b.sim b.journal.items (vec_capacity b.journal) b.output
          c.self.invariant.1 c.judge.new.sim j.net (same_top b.sim c.judge.new.sim j.state))
          c.enter.new.sim x.net
          (same_of c.judge.new.sim c.enter.new.sim c.sim-3.result.now c.args.local.now.run c.sim-3.ensures.run c.args.thread c.args.closed b.output c.enter.new.output w)),
    )

pub returns-in_default-entered-clause-given : goal.returns-in_default-entered-clause-given
returns-in_default-entered-clause-given g c =
    let b = c.self.inside in
    let j = c.judge.ensures in
    let x = c.in_ok-entered.ensures in
    let v : b.journal.items ≡ c.args.self.now = (let h = c.self.view_is in cc) in
    let w = waiting_of c.judge.new.sim c.enter.new.sim c.sim-3.result.now c.args.local.now.run c.sim-3.ensures.run c.args.thread c.args.closed b.output
    c.enter.new.output c.in_ok-entered.entered x.entered c.in_default-entered.is in
    given_as g.J.Case.modules g.J.Case.threads g.J.Case.most c.args.thread c.args.start.now c.args.closed b.journal.items c.args.self.now c.args.local.now
    b.journal.items c.args.local.now answers.Waits v
    (given_waits g.J.Case.modules g.J.Case.threads g.J.Case.most g.J.Case.layout b.sim b.journal.items (vec_capacity b.journal) b.output c.self.invariant.1
    (judged_as b.sim (length c.as_slice.result.now) b.most None (length b.journal.items) g.J.Case.most (ap length c.as_slice.ensures.value) c.self.invariant.0 c.in_default.ensures.verdict)
    c.judge.new.sim j.net j.state c.args.thread c.args.start.now c.requires.run.starts
    (subst (λ (r : Running). IsSameSlotOf (threads_of c.judge.new.sim.modules) c.args.thread c.judge.new.sim r) c.sim.ensures.run c.if-not-same_slot.ensures)
    c.args.closed c.args.local.now c.enter.new.sim w.0)

pub push_reserved-requires : goal.push_reserved-requires
push_reserved-requires g c =
    let b = c.self.inside in
    let j = c.judge.ensures in
    let k = c.self.invariant.1 in
    let in_bounds : length b.journal.items ≤ g.J.Case.most = k.within in
    let roomy : g.J.Case.most ≤ vec_capacity b.journal = k.roomy in
    let room =
    free g.J.Case.modules g.J.Case.threads g.J.Case.most g.J.Case.layout b.sim b.journal.items (vec_capacity b.journal) b.output k
    (judged_as b.sim (length c.as_slice.result.now) b.most None (length b.journal.items) g.J.Case.most (ap length c.as_slice.ensures.value) c.self.invariant.0 c.in_default.ensures.verdict)
    c.judge.new.sim j.net j.state in
    let long = c.as_slice.ensures.len in
    let same = ap length c.as_slice.ensures.value in omega (arith, in_bounds, roomy, room, long, same)

pub hold-requires-2-clause-thread : goal.hold-requires-2-clause-thread
hold-requires-2-clause-thread g c = c.requires.thread

pub hold-requires-2-clause-net : goal.hold-requires-2-clause-net
hold-requires-2-clause-net g c =
    let k = c.self.invariant.1 in
    net_trans g.J.Case.layout c.judge.new.sim c.enter.new.sim (net_trans g.J.Case.layout c.self.inside.sim c.judge.new.sim k.net c.judge.ensures.net) c.in_ok-entered.ensures.net

pub invariant_of-self-2 : goal.invariant_of-self-2
invariant_of-self-2 g c =
    let b = c.self.inside in
    let j = c.judge.ensures in
    let x = c.in_ok-entered.ensures in
    let made = making_of c.judge.new.sim c.enter.new.sim c.sim-3.result.now c.args.local.now.run c.sim-3.ensures.run c.args.thread c.args.closed b.output
    c.enter.new.output c.in_ok-entered.entered x.entered
    c.in-Some.entry c.in-Some.is in (
      c.self.invariant.0,
      keeps_entered g.J.Case.modules g.J.Case.threads g.J.Case.most g.J.Case.layout b.sim b.journal.items (vec_capacity b.journal) b.output c.self.invariant.1
          (judged_as b.sim (length c.as_slice.result.now) b.most None (length b.journal.items) g.J.Case.most (ap length c.as_slice.ensures.value) c.self.invariant.0 c.in_default.ensures.verdict)
          c.judge.new.sim j.net j.state c.args.thread c.args.start.now c.requires.run.starts
          (subst (λ (r : Running). IsSameSlotOf (threads_of c.judge.new.sim.modules) c.args.thread c.judge.new.sim r) c.sim.ensures.run c.if-not-same_slot.ensures)
          c.args.closed c.args.local.now c.enter.new.sim
          c.in-Some.entry x.net c.enter.new.output made c.push_reserved.new.self.items c.push_reserved.ensures.items (vec_capacity c.push_reserved.new.self)
          (let e = c.push_reserved.ensures.capacity in omega (arith, e)),
    )

pub returns-clause-given : goal.returns-clause-given
returns-clause-given g c =
    let b = c.self.inside in
    let j = c.judge.ensures in
    let x = c.in_ok-entered.ensures in
    let v : b.journal.items ≡ c.args.self.now = (let h = c.self.view_is in cc) in
    let made = making_of c.judge.new.sim c.enter.new.sim c.sim-3.result.now c.args.local.now.run c.sim-3.ensures.run c.args.thread c.args.closed b.output
    c.enter.new.output c.in_ok-entered.entered x.entered
    c.in-Some.entry c.in-Some.is in
    given_as g.J.Case.modules g.J.Case.threads g.J.Case.most c.args.thread c.args.start.now c.args.closed b.journal.items c.args.self.now c.args.local.now
    c.push_reserved.new.self.items c.hold-2.new.self
    answers.Committed v
    (given_committed g.J.Case.modules g.J.Case.threads g.J.Case.most g.J.Case.layout b.sim b.journal.items (vec_capacity b.journal) b.output c.self.invariant.1
    (judged_as b.sim (length c.as_slice.result.now) b.most None (length b.journal.items) g.J.Case.most (ap length c.as_slice.ensures.value) c.self.invariant.0 c.in_default.ensures.verdict)
    c.judge.new.sim j.net j.state c.args.thread c.args.start.now c.requires.run.starts
    (subst (λ (r : Running). IsSameSlotOf (threads_of c.judge.new.sim.modules) c.args.thread c.judge.new.sim r) c.sim.ensures.run c.if-not-same_slot.ensures)
    c.args.closed c.args.local.now c.enter.new.sim
    c.in-Some.entry x.net c.enter.new.output made c.push_reserved.new.self.items c.push_reserved.ensures.items c.hold-2.new.self c.hold-2.ensures)
