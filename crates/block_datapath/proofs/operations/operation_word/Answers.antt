use Rattle.std.proofs.Common.{refl, sym, ap, slice_get}
use Rattle.block_ir.specs.declared.block.Operation.TheVariants.{Unary, Binary, ReadGlobal, WriteGlobal, ReadArray, WriteArray}
use Rattle.thread_promise.specs.Types.{value_type, or_int, element_type}
use Rattle.block_datapath.proofs.OperationWords.{of_start, of_shared, of_end, of_read, zero_given}
use Rattle.block_datapath.proofs.BlockWires.{operation_wired, read_wired, constant_wired}
use Rattle.operator_wires.specs.Shown.{truth_type, unary_result, binary_result}
use Rattle.block_datapath.proofs.operations.operation_word.Goals as goal

pub returns-in-Unary-clause-shows : goal.returns-in-Unary-clause-shows
returns-in-Unary-clause-shows c =
    of_start c.unary_value.result c.args.wires.now.signals c.unary_value.new.wires.signals c.args.globals.now c.args.code.now c.args.registers.now c.args.values.now c.args.unit c.args.start
    c.args.last
    c.args.operation.now (Unary c.in-Unary.operator c.in-Unary.ty c.in-Unary.operand) c.in-Unary.is c.unary_value.ensures.shows

pub returns-in-Binary-clause-shows : goal.returns-in-Binary-clause-shows
returns-in-Binary-clause-shows c =
    of_shared c.shared_value.result c.args.wires.now.signals c.shared_value.new.wires.signals c.args.globals.now c.args.code.now c.args.registers.now c.args.values.now c.args.unit c.args.start
    c.args.last
    c.args.operation.now (Binary c.in-Binary.operator c.in-Binary.ty c.in-Binary.left c.in-Binary.right) c.in-Binary.is c.shared_value.ensures.shows

pub returns-in-ReadArray-clause-shows : goal.returns-in-ReadArray-clause-shows
returns-in-ReadArray-clause-shows c =
    of_end c.element_value.result c.args.wires.now.signals c.element_value.new.wires.signals c.args.globals.now c.args.code.now c.args.registers.now c.args.values.now c.args.unit c.args.start
    c.args.last
    c.args.operation.now c.in-ReadArray.array c.in-ReadArray.length c.in-ReadArray.index c.in-ReadArray.is c.element_value.ensures.shows

pub returns-in-ReadGlobal-clause-shows : goal.returns-in-ReadGlobal-clause-shows
returns-in-ReadGlobal-clause-shows c =
    of_read c.told_value.result c.args.wires.now.signals c.told_value.new.wires.signals c.args.globals.now c.args.code.now c.args.registers.now c.args.values.now c.args.unit c.args.start
    c.args.last
    c.args.operation.now c.in-ReadGlobal.global c.in-ReadGlobal.length c.in-ReadGlobal.index c.in-ReadGlobal.is c.told_value.ensures.shows

pub returns-in-WriteGlobal-clause-shows : goal.returns-in-WriteGlobal-clause-shows
returns-in-WriteGlobal-clause-shows c =
    zero_given c.constant_word.result c.args.wires.now.signals c.constant_word.new.self.signals c.args.globals.now c.args.code.now c.args.registers.now
    c.args.values.now c.args.unit c.args.start c.args.last c.args.operation.now (WriteGlobal c.in-WriteGlobal.global c.in-WriteGlobal.length c.in-WriteGlobal.index c.in-WriteGlobal.value) _ _
    c.in-WriteGlobal.is
    (λ variables given arrays told. refl) refl c.constant_word.ensures.shows (sym (ap (value_type c.args.globals.now c.args.code.now) c.in-WriteGlobal.is)) refl

pub returns-in-WriteArray-clause-shows : goal.returns-in-WriteArray-clause-shows
returns-in-WriteArray-clause-shows c =
    zero_given c.constant_word-in-WriteArray.result c.args.wires.now.signals c.constant_word-in-WriteArray.new.self.signals c.args.globals.now c.args.code.now c.args.registers.now
    c.args.values.now c.args.unit c.args.start c.args.last c.args.operation.now (WriteArray c.in-WriteArray.array c.in-WriteArray.length c.in-WriteArray.index c.in-WriteArray.value) _ _
    c.in-WriteArray.is
    (λ variables given arrays told. refl) refl c.constant_word-in-WriteArray.ensures.shows (sym (ap (value_type c.args.globals.now c.args.code.now) c.in-WriteArray.is)) refl

pub returns-in-Unary-clause-wired : goal.returns-in-Unary-clause-wired
returns-in-Unary-clause-wired c =
    operation_wired c.unary_value.result c.args.wires.now.signals c.unary_value.new.wires.signals c.args.globals.now c.args.code.now c.args.registers.now c.args.values.now
    (unary_result
    c.in-Unary.operator c.in-Unary.ty) c.args.operation.now
    (Unary c.in-Unary.operator c.in-Unary.ty c.in-Unary.operand) c.in-Unary.is c.unary_value.ensures.wired refl

pub returns-in-Binary-clause-wired : goal.returns-in-Binary-clause-wired
returns-in-Binary-clause-wired c =
    operation_wired c.shared_value.result c.args.wires.now.signals c.shared_value.new.wires.signals c.args.globals.now c.args.code.now c.args.registers.now c.args.values.now
    (binary_result
    c.in-Binary.operator c.in-Binary.ty) c.args.operation.now
    (Binary c.in-Binary.operator c.in-Binary.ty c.in-Binary.left c.in-Binary.right) c.in-Binary.is c.shared_value.ensures.wired refl

pub returns-in-ReadArray-clause-wired : goal.returns-in-ReadArray-clause-wired
returns-in-ReadArray-clause-wired c =
    read_wired c.element_value.result c.args.wires.now.signals c.element_value.new.wires.signals c.args.globals.now c.args.code.now c.args.registers.now c.args.values.now
    (element_type (slice_get c.args.code.now.arrays c.in-ReadArray.array)) c.args.operation.now
    (ReadArray c.in-ReadArray.array c.in-ReadArray.length c.in-ReadArray.index) c.in-ReadArray.is c.element_value.ensures.wired refl

pub returns-in-ReadGlobal-clause-wired : goal.returns-in-ReadGlobal-clause-wired
returns-in-ReadGlobal-clause-wired c =
    read_wired c.told_value.result c.args.wires.now.signals c.told_value.new.wires.signals c.args.globals.now c.args.code.now c.args.registers.now c.args.values.now
    (or_int (slice_get c.args.globals.now c.in-ReadGlobal.global)) c.args.operation.now
    (ReadGlobal c.in-ReadGlobal.global c.in-ReadGlobal.length c.in-ReadGlobal.index) c.in-ReadGlobal.is c.told_value.ensures.wired refl

pub returns-in-WriteGlobal-clause-wired : goal.returns-in-WriteGlobal-clause-wired
returns-in-WriteGlobal-clause-wired c =
    constant_wired c.constant_word.result c.args.wires.now.signals c.constant_word.new.self.signals c.args.globals.now c.args.code.now c.args.registers.now
    c.args.values.now truth_type c.args.operation.now c.constant_word.ensures.wired
    (sym (ap (value_type c.args.globals.now c.args.code.now) c.in-WriteGlobal.is))

pub returns-in-WriteArray-clause-wired : goal.returns-in-WriteArray-clause-wired
returns-in-WriteArray-clause-wired c =
    constant_wired c.constant_word-in-WriteArray.result c.args.wires.now.signals c.constant_word-in-WriteArray.new.self.signals c.args.globals.now c.args.code.now
    c.args.registers.now
    c.args.values.now truth_type c.args.operation.now c.constant_word-in-WriteArray.ensures.wired
    (sym (ap (value_type c.args.globals.now c.args.code.now) c.in-WriteArray.is))
