use Rattle.std.proofs.Common.{List, sym, subst}
use Rattle.netlist.specs.declared.netlist.Module.{Module}
use Rattle.sim_layout.specs.Rounds.{threads_of}
use Rattle.slot_sim.specs.Slots.{IsThreadedIn}
use Rattle.journal_laws.proofs.EntrySlots.{cycle_back, prints_back, taken_back}
use Rattle.journal_laws.proofs.enter.put_in.Goals as goal

pub opens-requires-clause-threaded : goal.opens-requires-clause-threaded
opens-requires-clause-threaded c = subst (λ (ms : List Module). IsThreadedIn ms (threads_of ms)) (sym c.copy_slot_from.ensures.net.modules) c.requires.threaded

pub returns-in-Ok-clause-put : goal.returns-in-Ok-clause-put
returns-in-Ok-clause-put c =
    let can = c.if-not-opens.ensures in record {
      put = c.copy_slot_from.new.self;
      taken = c.copy_slot_from.ensures;
      opens = λ z. (
        can.opens,
        cycle_back c.copy_slot_from.new.self c.opens.new.self can.net can.state c.args.thread c.cycle.new.self c.args.output.now c.cycle.new.out c.in-Ok.ensures.ok,
      );
      waits = λ z. absurd cc;
    }

pub returns-in-Err-clause-prints : goal.returns-in-Err-clause-prints
returns-in-Err-clause-prints c =
    let can = c.if-not-opens.ensures in record {
      put = c.copy_slot_from.new.self;
      taken = c.copy_slot_from.ensures;
      can = can.opens;
      prints = prints_back c.copy_slot_from.new.self c.opens.new.self can.net can.state c.args.thread c.in-Err.ensures.prints;
    }

pub returns-in-Err-clause-state : goal.returns-in-Err-clause-state
returns-in-Err-clause-state c =
    let can = c.if-not-opens.ensures in
    taken_back c.args.sim.now c.args.local.now c.copy_slot_from.new.self c.opens.new.self c.cycle.new.self c.args.start.now c.copy_slot_from-in-Err.new.self c.args.thread c.requires.start
    c.copy_slot_from.ensures can.net can.state c.in-Err.ensures.net c.in-Err.ensures.state c.copy_slot_from-in-Err.ensures
