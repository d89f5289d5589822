use Rattle.std.specs.Prelude.{ℕ, ◌<◌, List, length}
use Rattle.sim_layout.proofs.Calls.{on_err}
use Rattle.sim_layout.specs.Running.{state_of}
use Rattle.journal_laws.specs.Steps.{OfTop, OpensTo}
use Rattle.journal_laws.proofs.EntrySlots.{entered, waited, wanting}
use Rattle.journal_laws.proofs.enter.enter.Goals as goal

pub returns-then-not-has_cycle-clause-entered : goal.returns-then-not-has_cycle-clause-entered
returns-then-not-has_cycle-clause-entered c =
    let q = c.requires in
    let h = c.if-not-has_cycle.ensures in
    waited c.args.sim.now c.threads.ensures.stands c.args.thread c.args.closed q.threaded q.thread q.most q.running c.args.start.now c.args.local.now
    c.put_in.new.sim q.start q.run c.args.output.now c.put_in.new.output
    c.in_ok-opened.opened c.in_ok-opened.ensures.put h.0 h.1

pub returns-clause-entered : goal.returns-clause-entered
returns-clause-entered c =
    let q = c.requires in
    entered c.args.sim.now c.threads.ensures.stands c.args.thread c.args.closed q.threaded q.thread q.most q.running c.args.start.now c.args.local.now
    c.put_in.new.sim q.start q.run c.args.output.now c.put_in.new.output
    c.in_ok-opened.opened c.in_ok-opened.ensures.put c.if-not-has_cycle.ensures

pub returns-in_err-opened-clause-prints : goal.returns-in_err-opened-clause-prints
returns-in_err-opened-clause-prints c =
    let q = c.requires in
    on_err c.from_residual.result
    (OfTop c.args.sim.now (λ modules top count. (bytes : List ℕ) × OpensTo modules top count c.args.thread (state_of c.args.sim.now) (state_of c.args.local.now) bytes × (0 < length bytes)))
    (wanting c.args.sim.now c.threads.ensures.stands c.args.thread c.args.closed q.threaded q.thread q.most q.running c.args.start.now c.args.local.now q.start q.run c.in_err-opened.ensures.prints)
