use Rattle.std.proofs.Common.{◌≡◌, ℕ, length, ap, subst, arith}
use Rattle.block_datapath.specs.Accesses.{AsksFirst}
use Rattle.block_datapath.proofs.OperationValues.{item_is}
use Rattle.block_datapath.proofs.AskedByAccesses.{first_asked_none, first_asked_more, first_linked_none, first_linked_more}
use Rattle.block_datapath.proofs.accesses.ask_all.Goals as goal

pub loop-number-preserved : goal.loop-number-preserved
loop-number-preserved c = (
  first_asked_more c.args.registers.now c.args.code.now.variables c.args.values.now c.args.globals.now c.args.spreads.now c.args.block.now c.args.plan.now c.args.end
      c.args.wires.now.signals c.loop-number.wires.signals c.ask_operation.new.wires.signals c.args.chains.now c.loop-number.chains c.ask_operation.new.chains c.loop-number.number
      c.start_of.result c.operation-item.result c.loop-number.invariant.0
      (item_is c.as_slice-operation-items.result.now c.args.block.now.operations c.loop-number.number c.operation-item.result c.loop-number-test.true c.operation-item.is
      c.as_slice-operation-items.ensures)
      c.start_of.ensures c.in_ok-ask_operation.ensures.shows,
  first_linked_more c.args.registers.now c.args.code.now.variables c.args.values.now c.args.globals.now c.args.spreads.now c.args.block.now c.args.plan.now c.args.end
      c.args.wires.now.signals c.loop-number.wires.signals c.ask_operation.new.wires.signals c.args.chains.now c.loop-number.chains c.ask_operation.new.chains c.start_of.result
      c.loop-number.invariant.1 c.in_ok-ask_operation.ensures.wired,
)

pub loop-number-init : goal.loop-number-init
loop-number-init c = (
  first_asked_none c.args.registers.now c.args.code.now.variables c.args.values.now c.args.globals.now c.args.spreads.now c.args.block.now c.args.plan.now c.args.end
      c.args.wires.now.signals c.args.chains.now,
  first_linked_none c.args.registers.now c.args.code.now.variables c.args.values.now c.args.globals.now c.args.spreads.now c.args.block.now c.args.plan.now c.args.end
      c.args.wires.now.signals c.args.chains.now,
)

pub returns-clause-shows : goal.returns-clause-shows
returns-clause-shows c =
    let same : length c.as_slice-operation-items.result.now ≡ length c.args.block.now.operations = ap length c.as_slice-operation-items.ensures in
    let all : c.loop-number.number ≡ length c.args.block.now.operations = omega arith in
    subst (λ (n : ℕ). AsksFirst c.args.wires.now.signals c.loop-number.wires.signals c.args.registers.now c.args.code.now.variables c.args.values.now c.args.chains.now
    c.loop-number.chains
    c.args.globals.now c.args.spreads.now c.args.block.now c.args.plan.now c.args.end n) all c.loop-number.invariant.0
