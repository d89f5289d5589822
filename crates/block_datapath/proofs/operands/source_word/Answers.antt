use Rattle.std.proofs.Common.{to_z, of_z}
use mir.Syntax.{w128}
use Rattle.std.proofs.lemmas.Int.{to_z-of_z}
use Rattle.block_datapath.proofs.OperandWords.{constant_source, fits_typed}
use Rattle.block_datapath.proofs.BlockWires.{constant_sourced, variable_sourced, value_sourced}
use Rattle.block_ir.specs.declared.operand.Source.TheVariants.{Constant, Variable, Value}
use Rattle.block_datapath.proofs.operands.source_word.Goals as goal

pub returns-in-Constant-clause-shows : goal.returns-in-Constant-clause-shows
returns-in-Constant-clause-shows c =
    let n = c.in-Constant.number in
    let ty = c.in-Constant.ty in
    constant_source c.constant_word.result c.args.wires.now.signals c.constant_word.new.self.signals c.args.registers.now c.args.types.now c.args.values.now c.args.state
    c.args.source ty n
    (to_z w128 (of_z w128 n)) (λ t. to_z-of_z w128 n (fits_typed ty n t)) c.in-Constant.is c.constant_word.ensures.shows

pub returns-in-Constant-clause-wired : goal.returns-in-Constant-clause-wired
returns-in-Constant-clause-wired c =
    constant_sourced c.constant_word.result c.args.wires.now.signals c.constant_word.new.self.signals c.args.types.now c.args.registers.now c.args.values.now c.args.source
    (Constant
    c.in-Constant.ty c.in-Constant.number) c.in-Constant.is c.constant_word.ensures.wired

pub returns-in-Variable-clause-wired : goal.returns-in-Variable-clause-wired
returns-in-Variable-clause-wired c =
    variable_sourced c.variable_word.result c.args.wires.now.signals c.variable_word.new.wires.signals c.args.types.now c.args.registers.now c.args.values.now c.args.source
    (Variable
    c.in-Variable.number c.in-Variable.ty) c.in-Variable.is c.variable_word.ensures.wired

pub returns-in-Value-clause-wired : goal.returns-in-Value-clause-wired
returns-in-Value-clause-wired c =
    value_sourced c.value_word.result c.args.wires.now.signals c.value_word.new.wires.signals c.args.types.now c.args.registers.now c.args.values.now c.args.source
    (Value c.in-Value.number
    c.in-Value.ty) c.in-Value.is c.value_word.ensures.wired
