use Rattle.std.proofs.Common.{refl, slice_get}
use Rattle.block_ir.specs.declared.block.Operation.TheVariants.{Unary, Binary, ReadArray}
use Rattle.operator_wires.specs.Shown.{unary_result, binary_result}
use Rattle.thread_promise.specs.Types.{value_type, element_type}
use Rattle.loop_datapath.proofs.LoopOperations.{known_given, read_given, default_given}
use Rattle.loop_datapath.proofs.RoundWires.{operation_wired, read_wired, constant_wired}
use Rattle.loop_datapath.proofs.operations.operation_in.Goals as goal

pub returns-in-Unary-clause-shows : goal.returns-in-Unary-clause-shows
returns-in-Unary-clause-shows c =
    known_given c.unary_in.result c.args.globals.now c.args.code.now c.args.registers.now c.args.turn.now c.args.times.now c.args.words.now c.args.rounds.now c.args.time.stage
    c.args.time.phase c.args.wires.now.signals
    c.unary_in.new.wires.signals c.args.operation.now (Unary c.in-Unary.operator c.in-Unary.ty c.in-Unary.operand) c.in-Unary.is c.unary_in.ensures.shows

pub returns-in-Binary-clause-shows : goal.returns-in-Binary-clause-shows
returns-in-Binary-clause-shows c =
    known_given c.binary_in.result c.args.globals.now c.args.code.now c.args.registers.now c.args.turn.now c.args.times.now c.args.words.now c.args.rounds.now c.args.time.stage
    c.args.time.phase c.args.wires.now.signals
    c.binary_in.new.wires.signals c.args.operation.now (Binary c.in-Binary.operator c.in-Binary.ty c.in-Binary.left c.in-Binary.right) c.in-Binary.is c.binary_in.ensures.shows

pub returns-in-ReadArray-clause-shows : goal.returns-in-ReadArray-clause-shows
returns-in-ReadArray-clause-shows c =
    read_given c.element_in.result c.args.globals.now c.args.code.now c.args.registers.now c.args.turn.now c.args.times.now c.args.words.now c.args.rounds.now c.args.time.stage
    c.args.time.phase c.args.wires.now.signals
    c.element_in.new.wires.signals c.args.operation.now c.in-ReadArray.array c.in-ReadArray.length c.in-ReadArray.index c.in-ReadArray.is c.element_in.ensures.shows

pub returns-in_default-clause-shows : goal.returns-in_default-clause-shows
returns-in_default-clause-shows c =
    default_given c.constant_word.result c.args.globals.now c.args.code.now c.args.registers.now c.args.turn.now c.args.times.now c.args.words.now c.args.rounds.now c.args.time.stage
    c.args.time.phase c.args.wires.now.signals
    c.constant_word.new.self.signals c.args.operation.now c.value_type.result _ c.in_default.not-Unary c.in_default.not-Binary c.in_default.not-ReadArray c.value_type.ensures
    refl c.constant_word.ensures.shows

pub returns-in-Unary-clause-wired : goal.returns-in-Unary-clause-wired
returns-in-Unary-clause-wired c =
    operation_wired c.args.code.now c.args.registers.now c.args.words.now c.args.rounds.now c.args.times.now.stages c.unary_in.result c.args.wires.now.signals
    c.unary_in.new.wires.signals c.args.globals.now (unary_result c.in-Unary.operator c.in-Unary.ty) c.args.operation.now
    (Unary c.in-Unary.operator c.in-Unary.ty c.in-Unary.operand) c.in-Unary.is c.unary_in.ensures.wired refl

pub returns-in-Binary-clause-wired : goal.returns-in-Binary-clause-wired
returns-in-Binary-clause-wired c =
    operation_wired c.args.code.now c.args.registers.now c.args.words.now c.args.rounds.now c.args.times.now.stages c.binary_in.result c.args.wires.now.signals
    c.binary_in.new.wires.signals c.args.globals.now (binary_result c.in-Binary.operator c.in-Binary.ty) c.args.operation.now
    (Binary c.in-Binary.operator c.in-Binary.ty c.in-Binary.left c.in-Binary.right) c.in-Binary.is c.binary_in.ensures.wired refl

pub returns-in-ReadArray-clause-wired : goal.returns-in-ReadArray-clause-wired
returns-in-ReadArray-clause-wired c =
    read_wired c.args.code.now c.args.registers.now c.args.words.now c.args.rounds.now c.args.times.now.stages c.element_in.result c.args.wires.now.signals
    c.element_in.new.wires.signals c.args.globals.now (element_type (slice_get c.args.code.now.arrays c.in-ReadArray.array)) c.args.operation.now
    (ReadArray c.in-ReadArray.array c.in-ReadArray.length c.in-ReadArray.index) c.in-ReadArray.is c.element_in.ensures.wired refl

pub returns-in_default-clause-wired : goal.returns-in_default-clause-wired
returns-in_default-clause-wired c =
    constant_wired c.args.code.now c.args.registers.now c.args.words.now c.args.rounds.now c.args.times.now.stages c.constant_word.result c.args.wires.now.signals
    c.constant_word.new.self.signals c.value_type.result (value_type c.args.globals.now c.args.code.now c.args.operation.now) c.constant_word.ensures.wired c.value_type.ensures
