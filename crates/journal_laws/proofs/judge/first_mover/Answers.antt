use Rattle.std.proofs.Common.{List, sym, subst, arith}
use Rattle.netlist.specs.declared.netlist.Module.{Module}
use Rattle.sim_layout.specs.Rounds.{threads_of}
use Rattle.slot_sim.proofs.LockstepTurns.{net_trans}
use Rattle.slot_sim.specs.Slots.{IsThreadedIn}
use Rattle.journal_laws.proofs.Alike.{state_trans, none_more, first_found}
use Rattle.journal_laws.proofs.judge.first_mover.Goals as goal

pub moves-requires-clause-threaded : goal.moves-requires-clause-threaded
moves-requires-clause-threaded c = subst (λ (ms : List Module). IsThreadedIn ms (threads_of ms)) (sym c.loop-thread.invariant.net.modules) c.requires.threaded

pub returns-then-moves-clause-first : goal.returns-then-moves-clause-first
returns-then-moves-clause-first c =
    let v = c.loop-thread.invariant in
    first_found c.args.sim.now c.loop-thread.sim v.net v.state c.args.from c.args.end c.loop-thread.thread (omega arith) (omega arith) v.none c.if-moves.ensures.moves

pub returns-then-moves-clause-state : goal.returns-then-moves-clause-state
returns-then-moves-clause-state c =
    let v = c.loop-thread.invariant in state_trans c.args.sim.now c.loop-thread.sim c.moves.new.self v.net v.state c.if-moves.ensures.state

pub loop-thread-preserved : goal.loop-thread-preserved
loop-thread-preserved c =
    let v = c.loop-thread.invariant in record {
      net = net_trans c.args.sim.now c.loop-thread.sim c.moves.new.self v.net c.if-moves.ensures.net;
      state = state_trans c.args.sim.now c.loop-thread.sim c.moves.new.self v.net v.state c.if-moves.ensures.state;
      none = none_more c.args.sim.now c.loop-thread.sim v.net v.state c.args.from c.loop-thread.thread v.none c.if-moves.ensures.moves;
    }

pub returns-clause-first : goal.returns-clause-first
returns-clause-first c = λ k l m. c.loop-thread.invariant.none k l (let t = c.loop-thread-test.false in omega (arith, m, t))
