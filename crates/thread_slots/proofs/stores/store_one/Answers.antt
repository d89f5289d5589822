use Rattle.operator_wires.proofs.PutSignals.{grows_refl}
use Rattle.thread_slots.proofs.StandingStores.{stores_none}
use Rattle.thread_slots.proofs.PutStores.{puts_others}
use Rattle.thread_slots.proofs.stores.store_one.Goals as goal

pub returns-in_default : goal.returns-in_default
returns-in_default c = record {
  grows = grows_refl c.args.wires.now.signals;
  puts =
      puts_others c.args.wires.now.signals c.args.wires.now.signals c.args.registers.now c.args.moment c.args.stores.now c.args.code.now c.args.values.now c.args.operation.now
      (grows_refl c.args.wires.now.signals) c.in_default.not-WriteArray;
  wired = stores_none c.args.wires.now.signals c.args.code.now c.args.registers.now c.args.values.now c.args.moment.at c.args.moment.states c.args.stores.now;
}
