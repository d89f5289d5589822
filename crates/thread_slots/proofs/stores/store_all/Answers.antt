use Rattle.operator_wires.proofs.PutSignals.{grows_refl, grows_then}
use Rattle.block_datapath.proofs.OperationValues.{item_is}
use Rattle.thread_slots.proofs.StandingStores.{stores_none, stores_then}
use Rattle.thread_slots.proofs.PutStores.{first_none, first_more}
use Rattle.thread_slots.proofs.stores.store_all.Goals as goal

pub loop-number-preserved : goal.loop-number-preserved
loop-number-preserved c = record {
  grows = grows_then c.args.wires.now.signals c.loop-number.wires.signals c.store_one.new.wires.signals c.loop-number.invariant.grows c.in_ok-store_one.ensures.grows;
  puts =
      first_more c.args.wires.now.signals c.loop-number.wires.signals c.store_one.new.wires.signals c.args.registers.now c.args.end.at c.args.end.states c.start_of-start.result
      c.args.stores.now
      c.loop-number.stores c.store_one.new.stores c.args.code.now c.args.values.now c.args.block.now.operations c.args.plan.now.starts c.loop-number.number c.operation-item.result
      c.loop-number.invariant.puts
      (item_is c.as_slice-operation-items.result.now c.args.block.now.operations c.loop-number.number c.operation-item.result c.loop-number-test.true c.operation-item.is
      c.as_slice-operation-items.ensures)
      c.start_of-start.ensures c.in_ok-store_one.ensures.puts;
  wired =
      stores_then c.args.wires.now.signals c.loop-number.wires.signals c.store_one.new.wires.signals c.args.code.now c.args.registers.now c.args.values.now c.args.end.at
      c.args.end.states
      c.args.stores.now c.loop-number.stores c.store_one.new.stores c.loop-number.invariant.wired c.in_ok-store_one.ensures.wired;
}

pub loop-number-init : goal.loop-number-init
loop-number-init c = record {
  grows = grows_refl c.args.wires.now.signals;
  puts = first_none c.args.wires.now.signals c.args.registers.now c.args.end.at c.args.end.states c.args.stores.now c.args.code.now c.args.values.now c.args.block.now.operations
      c.args.plan.now.starts;
  wired = stores_none c.args.wires.now.signals c.args.code.now c.args.registers.now c.args.values.now c.args.end.at c.args.end.states c.args.stores.now;
}
