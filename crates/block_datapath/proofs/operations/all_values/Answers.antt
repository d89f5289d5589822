use Rattle.std.proofs.Common.{◌+◌, ◌∙◌, List, sym, subst}
use Rattle.block_datapath.specs.declared.operands.Given.{Given}
use Rattle.block_datapath.specs.Operations.{ShowsFirst}
use Rattle.block_datapath.specs.Wired.{AreGiven, IsOperationWord}
use Rattle.block_datapath.proofs.OperationValues.{first_none, first_more, next_same, item_is}
use Rattle.thread_promise.specs.Types.{value_type}
use Rattle.block_datapath.proofs.BlockWires.{given_none, given_more}
use Rattle.block_datapath.proofs.operations.all_values.Goals as goal

pub loop-operation-preserved : goal.loop-operation-preserved
loop-operation-preserved c =
    let globals = c.args.globals.now in
    let code = c.args.code.now in
    let registers = c.args.registers.now in
    let block = c.args.block.now in
    let plan = c.args.plan.now in
    let i = c.loop-operation.operation-index in (
      subst (λ (values : List Given). ShowsFirst globals code registers block plan c.args.wires.now.signals c.given_value.new.wires.signals (i + 1) values)
          (sym c.in_ok-push.ensures.ok)
          (first_more globals code registers block plan c.args.wires.now.signals c.loop-operation.wires.signals c.given_value.new.wires.signals c.loop-operation.values i
          c.operation-item.result
          c.in_ok-given.given c.loop-operation.invariant.0
          (item_is c.as_slice-operations.result.now block.operations i c.operation-item.result c.loop-operation-test.true c.operation-item.is c.as_slice-operations.ensures)
          (next_same c.loop-operation.wires.signals c.given_value.new.wires.signals globals code registers c.loop-operation.values c.as_slice-earlier.result.now plan i
          c.len-number.result
          c.operation-item.result c.in_ok-given.given c.as_slice-earlier.ensures (c.len-number.ensures ∙ c.loop-operation.invariant.0.count) c.in_ok-given.ensures.shows)),
      subst (λ (values : List Given). AreGiven c.args.wires.now.signals c.given_value.new.wires.signals code registers values) (sym c.in_ok-push.ensures.ok)
          (given_more c.args.wires.now.signals c.loop-operation.wires.signals c.given_value.new.wires.signals code registers c.loop-operation.values c.in_ok-given.given
          (value_type globals
          code c.operation-item.result)
          c.loop-operation.invariant.1
          (subst (λ (values : List Given). IsOperationWord c.loop-operation.wires.signals c.given_value.new.wires.signals code registers values
          (value_type globals code c.operation-item.result)
          c.in_ok-given.given.word) c.as_slice-earlier.ensures c.in_ok-given.ensures.wired)),
    )

pub loop-operation-init : goal.loop-operation-init
loop-operation-init c =
    let none = sym c.new-values.ensures in
    let globals = c.args.globals.now in
    let code = c.args.code.now in
    let registers = c.args.registers.now in
    let block = c.args.block.now in
    let plan = c.args.plan.now in (
      subst (λ (l : List Given). ShowsFirst globals code registers block plan c.args.wires.now.signals c.args.wires.now.signals 0 l) none
          (first_none globals code registers block plan
          c.args.wires.now.signals),
      subst (λ (l : List Given). AreGiven c.args.wires.now.signals c.args.wires.now.signals code registers l) none (given_none c.args.wires.now.signals code registers),
    )
