use Rattle.std.proofs.Common.{◌∙◌, ap, arith}
use Rattle.block_datapath.proofs.OperationWords.{operation_kept}
use Rattle.block_datapath.proofs.BlockWires.{given_wired}
use Rattle.hls_ints.specs.Types.{IntegerType, width_of}
use Rattle.thread_promise.specs.Types.{value_type}
use Rattle.block_datapath.proofs.operations.given_value.Goals as goal

pub returns-clause-shows : goal.returns-clause-shows
returns-clause-shows c =
    operation_kept c.args.wires.now.signals c.operation_word.new.wires.signals c.args.globals.now c.args.code.now c.args.registers.now c.args.values.now c.args.plan.now
    c.args.number
    c.unit_of-unit.result c.start_of-start.result c.args.operation.now c.in_ok-word.word
    (record { word = c.of_type.result; last = c.saturating_add-last.result; register = c.register_of-register.result })
    c.value_type.result
    c.in_ok-word.ensures.shows c.unit_of-unit.ensures c.start_of-start.ensures c.value_type.ensures c.of_type.ensures.place c.of_type.ensures.width c.of_type.ensures.signed
    c.register_of-register.ensures
    (λ small. omega arith)

pub returns-clause-wired : goal.returns-clause-wired
returns-clause-wired c =
    given_wired c.args.wires.now.signals c.operation_word.new.wires.signals c.args.code.now c.args.registers.now c.args.values.now
    (value_type c.args.globals.now c.args.code.now c.args.operation.now)
    c.in_ok-word.word c.of_type.result c.in_ok-word.ensures.wired c.of_type.ensures.place (c.of_type.ensures.width ∙ ap width_of c.value_type.ensures)
    (c.of_type.ensures.signed ∙ ap (λ (k : IntegerType). k.signed) c.value_type.ensures)
