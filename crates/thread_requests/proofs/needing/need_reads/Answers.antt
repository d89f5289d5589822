use Rattle.std.proofs.Common.{◌≡◌, ℕ, length, ap, subst, arith}
use Rattle.block_datapath.proofs.OperationValues.{item_is}
use Rattle.thread_requests.specs.Needing.{NeedsMore, HasStates, AreTaken}
use Rattle.thread_requests.proofs.Needs.{reads_none, reads_more}
use Rattle.thread_requests.proofs.needing.need_reads.Goals as goal

pub loop-number-preserved : goal.loop-number-preserved
loop-number-preserved c =
    reads_more c.args.registers.now c.args.at c.args.block.now c.args.plan.now c.loop-number.number c.start_of-start.result c.operation-item.result c.args.wires.now.signals
    c.loop-number.wires.signals c.need_read.new.wires.signals c.args.first c.loop-number.need c.in_ok-next.next
    (item_is c.as_slice-operation-items.result.now c.args.block.now.operations c.loop-number.number c.operation-item.result c.loop-number-test.true c.operation-item.is
    c.as_slice-operation-items.ensures)
    c.start_of-start.ensures c.loop-number.invariant c.in_ok-next.ensures

pub loop-number-init : goal.loop-number-init
loop-number-init c = reads_none c.args.registers.now c.args.at c.args.block.now c.args.plan.now c.args.wires.now.signals c.args.first

pub returns : goal.returns
returns c =
    let same : length c.as_slice-operation-items.result.now ≡ length c.args.block.now.operations = ap length c.as_slice-operation-items.ensures in
    let all : c.loop-number.number ≡ length c.args.block.now.operations = omega arith in
    subst (λ (n : ℕ). NeedsMore c.args.registers.now (HasStates c.args.registers.now c.args.at c.args.plan.now.states)
    (AreTaken c.args.registers.now c.args.at c.args.block.now c.args.plan.now n) c.args.wires.now.signals c.loop-number.wires.signals c.args.first c.loop-number.need) all
    c.loop-number.invariant
