use Rattle.std.proofs.Common.{List, sym, subst}
use Rattle.netlist.specs.declared.netlist.Module.{Module}
use Rattle.slot_sim.specs.Slots.{IsThreadedIn}
use Rattle.slot_sim.proofs.running.SlotSim.open.Goals as goal

pub slots_of-requires-clause-threaded : goal.slots_of-requires-clause-threaded
slots_of-requires-clause-threaded c = subst (λ (ms : List Module). IsThreadedIn ms c.args.threads) (sym c.in_ok-sim.ensures.ok.net) c.requires.threaded
