use Rattle.std.proofs.Common.{ℕ, true, List, ◌∙◌, sym, subst, arith}
use Rattle.netlist.specs.declared.netlist.Module.{Module}
use Rattle.sim_layout.specs.Running.{state_of}
use Rattle.sim_layout.specs.Rounds.{threads_of}
use Rattle.slot_sim.specs.Slots.{IsThreadedIn}
use Rattle.journal_laws.specs.Steps.{OfTop}
use Rattle.journal_replay.specs.Replays.{AreRedone, CannotRedo}
use Rattle.journal_replay.proofs.Entries.{said, denied, from_needed, no_open, entry_done}
use Rattle.journal_replay.proofs.steps.redo.Goals as goal

pub redo_steps-requires-2-clause-threaded : goal.redo_steps-requires-2-clause-threaded
redo_steps-requires-2-clause-threaded c = subst (λ (ms : List Module). IsThreadedIn ms (threads_of ms)) (sym c.in_ok-redo_steps.ensures.net.modules) c.requires.threaded

pub returns-then-not-branch-2-clause-redone : goal.returns-then-not-branch-2-clause-redone
returns-then-not-branch-2-clause-redone c =
    let y = c.in_ok-redo_steps.ensures in
    let z = c.in_ok-redo_steps-2.ensures in
    let r = c.redo_steps.new.sim in
    no_open c.args.sim.now r c.threads.ensures.stands c.args.entry y.net c.args.output.now c.redo_steps.new.output (said _ _ _ c.if-not-branch.false y.redone)
    (subst (λ (k : ℕ). OfTop r (λ ms top n. CannotRedo ms top n c.args.entry.thread true k (state_of r)))
    (c.from-open.ensures ∙ from_needed c.args.entry.opened) (denied _ _ _ c.if-not-branch-2.true z.redone))

pub returns-clause-redone : goal.returns-clause-redone
returns-clause-redone c =
    let y = c.in_ok-redo_steps.ensures in
    let z = c.in_ok-redo_steps-2.ensures in
    let r = c.redo_steps.new.sim in
    let e = c.args.entry in
    let new = c.redo_steps-2.new.sim in
    let a = c.if-entry-threads.false in
    let b = c.threads.ensures.threads in
    let f = c.if-entry-gt4096.false in
    let o = c.from-open.ensures ∙ from_needed c.args.entry.opened in
    entry_done c.args.sim.now r c.threads.ensures.stands e y.net c.args.output.now c.redo_steps.new.output (said _ _ _ c.if-not-branch.false y.redone) new
    c.redo_steps-2.new.output _
    (subst (λ (k : ℕ). OfTop r (λ ms top n. AreRedone ms top n e.thread true k (state_of r) (state_of new) c.redo_steps.new.output c.redo_steps-2.new.output)) o
    (said _ _ _ c.if-not-branch-2.false z.redone))
    (omega (arith, a, b)) (omega (arith, f)) c.if-not-has_cycle.ensures (omega (arith, o))
