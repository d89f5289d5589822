use Rattle.std.proofs.Common.{◌+◌, ◌∙◌, List, sym, subst}
use Rattle.block_datapath.specs.declared.operands.Given.{Given}
use Rattle.block_datapath.specs.Accesses.{AreRegistered, AreZeros}
use Rattle.block_datapath.proofs.OperationValues.{item_is}
use Rattle.block_datapath.proofs.AskedByAccesses.{registered_none, registered_more, zeros_none, zeros_more}
use Rattle.block_datapath.proofs.accesses.registered_values.Goals as goal

pub loop-operation-preserved : goal.loop-operation-preserved
loop-operation-preserved c =
    let globals = c.args.globals.now in
    let code = c.args.code.now in
    let block = c.args.block.now in
    let plan = c.args.plan.now in
    let i = c.loop-operation.operation-index in (
      subst (λ (values : List Given). AreRegistered globals code plan block c.args.wires.now.signals c.registered_value.new.wires.signals (i + 1) values)
          (sym c.in_ok-push.ensures.ok)
          (registered_more globals code plan block c.args.wires.now.signals c.loop-operation.wires.signals c.registered_value.new.wires.signals c.loop-operation.values i
          c.len-number.result
          c.operation-item.result c.in_ok-given.given c.loop-operation.invariant.0
          (item_is c.as_slice-operations.result.now block.operations i c.operation-item.result c.loop-operation-test.true c.operation-item.is c.as_slice-operations.ensures)
          (c.len-number.ensures ∙ c.loop-operation.invariant.0.count) c.in_ok-given.ensures.value),
      subst (λ (values : List Given). AreZeros c.args.wires.now.signals c.registered_value.new.wires.signals values) (sym c.in_ok-push.ensures.ok)
          (zeros_more c.args.wires.now.signals c.loop-operation.wires.signals c.registered_value.new.wires.signals c.loop-operation.values c.in_ok-given.given
          c.loop-operation.invariant.1
          c.in_ok-given.ensures.wired),
    )

pub loop-operation-init : goal.loop-operation-init
loop-operation-init c =
    let none = sym c.new-values.ensures in
    let here = c.args.wires.now.signals in (
      subst (λ (l : List Given). AreRegistered c.args.globals.now c.args.code.now c.args.plan.now c.args.block.now here here 0 l) none
          (registered_none c.args.globals.now c.args.code.now c.args.plan.now c.args.block.now here),
      subst (λ (l : List Given). AreZeros here here l) none (zeros_none here),
    )
