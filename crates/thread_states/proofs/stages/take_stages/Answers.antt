use Rattle.std.proofs.Common.{◌≡◌, length, ap, subst, arith}
use Rattle.block_datapath.proofs.OperationValues.{item_is}
use Rattle.thread_states.specs.Cells.{StoresFirst}
use Rattle.thread_states.specs.Stages.{WalksFirst}
use Rattle.thread_states.specs.Stores.{StagesKeepStores}
use Rattle.thread_states.proofs.StageByStage.{walks_none, walks_more}
use Rattle.thread_states.proofs.Blocks.{stages_none, stages_more}
use Rattle.thread_states.proofs.StateStores.{walk_begun, walk_stored}
use Rattle.thread_states.proofs.stages.take_stages.Goals as goal

pub loop-number-preserved : goal.loop-number-preserved
loop-number-preserved c = record {
  walks =
      walks_more c.args.globals.now c.args.code.now c.args.registers.now c.args.told c.args.planned.now c.args.wires.now.signals c.args.chains.now c.loop-number.wires.signals
      c.take_stage.new.wires.signals c.loop-number.chains c.take_stage.new.chains c.loop-number.number c.stage-item.result c.loop-number.invariant.walks
      (item_is c.as_slice-stage-items.result.now c.args.code.now.stages c.loop-number.number c.stage-item.result c.loop-number-test.true c.stage-item.is
      c.as_slice-stage-items.ensures)
      c.in_ok-take_stage.ensures.takes;
  puts =
      stages_more c.args.globals.now c.args.code.now c.args.registers.now c.args.planned.now c.args.wires.now.signals c.loop-number.wires.signals c.take_stage.new.wires.signals
      c.args.stores.now
      c.loop-number.stores c.take_stage.new.stores c.loop-number.number c.stage-item.result c.loop-number.invariant.puts
      (item_is c.as_slice-stage-items.result.now c.args.code.now.stages c.loop-number.number c.stage-item.result c.loop-number-test.true c.stage-item.is
      c.as_slice-stage-items.ensures)
      c.in_ok-take_stage.ensures.puts;
  stores =
      walk_stored c.args.globals.now c.args.code.now c.args.registers.now c.args.told c.args.planned.now c.args.wires.now.signals c.loop-number.wires.signals
      c.take_stage.new.wires.signals
      c.args.chains.now c.loop-number.chains c.loop-number.number c.args.stores.now c.loop-number.stores c.take_stage.new.stores c.loop-number.invariant.walks
      c.loop-number.invariant.stores
      c.in_ok-take_stage.ensures.stores;
}

pub loop-number-init : goal.loop-number-init
loop-number-init c = record {
  walks = walks_none c.args.globals.now c.args.code.now c.args.registers.now c.args.told c.args.planned.now c.args.wires.now.signals c.args.chains.now;
  puts = stages_none c.args.globals.now c.args.code.now c.args.registers.now c.args.planned.now c.args.wires.now.signals c.args.stores.now;
  stores = walk_begun c.args.code.now c.args.registers.now c.args.planned.now c.args.told.barred c.args.wires.now.signals c.args.chains.now c.args.stores.now;
}

pub returns-clause-walks : goal.returns-clause-walks
returns-clause-walks c =
    let same : length c.as_slice-stage-items.result.now ≡ length c.args.code.now.stages = ap length c.as_slice-stage-items.ensures in
    let all : c.loop-number.number ≡ length c.args.code.now.stages = omega arith in
    subst (λ n. WalksFirst c.args.globals.now c.args.code.now c.args.registers.now c.args.told c.args.planned.now c.args.wires.now.signals c.loop-number.wires.signals
    c.args.chains.now c.loop-number.chains n) all c.loop-number.invariant.walks

pub returns-clause-puts : goal.returns-clause-puts
returns-clause-puts c =
    let same : length c.as_slice-stage-items.result.now ≡ length c.args.code.now.stages = ap length c.as_slice-stage-items.ensures in
    let all : c.loop-number.number ≡ length c.args.code.now.stages = omega arith in
    subst (λ n. StoresFirst c.args.globals.now c.args.code.now c.args.registers.now c.args.planned.now c.args.wires.now.signals c.loop-number.wires.signals c.args.stores.now
    c.loop-number.stores n) all c.loop-number.invariant.puts

pub returns-clause-stores : goal.returns-clause-stores
returns-clause-stores c =
    let same : length c.as_slice-stage-items.result.now ≡ length c.args.code.now.stages = ap length c.as_slice-stage-items.ensures in
    let all : c.loop-number.number ≡ length c.args.code.now.stages = omega arith in
    subst (λ n. StagesKeepStores c.args.code.now c.args.registers.now c.args.planned.now c.args.told.barred n c.args.wires.now.signals c.loop-number.wires.signals c.args.chains.now
    c.args.stores.now
    c.loop-number.stores) all c.loop-number.invariant.stores
