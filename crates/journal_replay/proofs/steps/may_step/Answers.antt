use Rattle.std.proofs.Common.{Bool, List, ◌∙◌, sym, subst}
use Rattle.netlist.specs.declared.netlist.Module.{Module}
use Rattle.sim_layout.specs.Rounds.{threads_of}
use Rattle.cycle_sim.proofs.LockstepTurns.{net_trans}
use Rattle.slot_sim.specs.Slots.{IsThreadedIn, TellsNeed}
use Rattle.journal_laws.proofs.Alike.{state_trans}
use Rattle.journal_replay.proofs.RedoneEntries.{other_bit, same_bit, need_differs, done_shown, may_told}
use Rattle.journal_replay.proofs.steps.may_step.Goals as goal

pub returns-then-need-is_open-clause-may : goal.returns-then-need-is_open-clause-may
returns-then-need-is_open-clause-may c =
    need_differs c.args.sim.now c.args.thread c.args.is_open c.requires.threaded c.requires.thread c.need.result c.need.ensures.need
    (other_bit c.need.result c.args.is_open c.if-need-is_open.true)

pub returns-then-done-clause-may : goal.returns-then-done-clause-may
returns-then-done-clause-may c =
    let n = c.need.ensures in
    done_shown c.args.sim.now c.args.thread c.args.is_open c.requires.threaded c.requires.thread c.need.new.self n.net n.state c.if-done.ensures.done

pub returns-then-done-clause-state : goal.returns-then-done-clause-state
returns-then-done-clause-state c =
    let n = c.need.ensures in state_trans c.args.sim.now c.need.new.self c.done.new.self n.net n.state c.if-done.ensures.state

pub moves-requires-clause-threaded : goal.moves-requires-clause-threaded
moves-requires-clause-threaded c =
    subst (λ (ms : List Module). IsThreadedIn ms (threads_of ms)) (sym (c.if-done.ensures.net.modules ∙ c.need.ensures.net.modules)) c.requires.threaded

pub returns-clause-may : goal.returns-clause-may
returns-clause-may c =
    let n = c.need.ensures in
    let d = c.if-done.ensures in
    let r = c.args.sim.now in
    let s = c.need.new.self in
    let u = c.done.new.self in
    may_told r c.args.thread c.args.is_open c.requires.threaded c.requires.thread s n.net n.state
    (subst (λ (b : Bool). TellsNeed (threads_of r.modules) c.args.thread r b) (same_bit c.need.result c.args.is_open c.if-need-is_open.false) n.need) d.done u
    (net_trans r s u n.net d.net) (state_trans r s u n.net n.state d.state) c.moves.result
    c.moves.ensures.moves

pub returns-clause-state : goal.returns-clause-state
returns-clause-state c =
    let n = c.need.ensures in
    let d = c.if-done.ensures in
    let r = c.args.sim.now in
    let s = c.need.new.self in
    let u = c.done.new.self in
    state_trans r u c.moves.new.self (net_trans r s u n.net d.net) (state_trans r s u n.net n.state d.state) c.moves.ensures.state
