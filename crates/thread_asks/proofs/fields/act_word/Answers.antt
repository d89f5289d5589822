use Rattle.std.proofs.Common.{List, sym, subst, to_z, of_z}
use Rattle.hls_ints.specs.Types.{IntegerType}
use Rattle.operator_wires.specs.Built.{Base, AddsWord}
use Rattle.operator_wires.proofs.MadeWords.{of_ok}
use Rattle.block_datapath.specs.Wired.{AreRegisters}
use Rattle.thread_slots.specs.Wired.{AreSlots}
use Rattle.thread_slots.proofs.Between.{registers_of}
use mir.Syntax.{w128}
use Rattle.std.proofs.lemmas.Int.{to_z-of_z}
use Rattle.block_datapath.proofs.OperandWords.{fits_typed}
use Rattle.thread_asks.proofs.FieldValues.{constant_act, variable_act}
use Rattle.thread_asks.proofs.fields.act_word.Goals as goal

pub returns-in-Constant : goal.returns-in-Constant
returns-in-Constant c =
    let n = c.in-Constant.number in
    let ty = c.in-Constant.ty in
    constant_act c.constant_word.result c.args.wires.now.signals c.constant_word.new.self.signals c.args.code.now c.args.registers.now c.args.operand ty n (to_z w128 (of_z w128 n))
    (λ t. to_z-of_z w128 n (fits_typed ty n t)) c.in-Constant.is c.constant_word.ensures.shows c.constant_word.ensures.wired

pub returns-in-Variable : goal.returns-in-Variable
returns-in-Variable c =
    variable_act c.variable_word.result c.args.wires.now.signals c.variable_word.new.wires.signals c.args.code.now c.args.registers.now c.args.operand c.in-Variable.number
    c.in-Variable.ty
    c.as_slice.result.now c.as_slice.ensures c.in-Variable.is c.variable_word.ensures.shows
    (of_ok c.variable_word.result (λ out. (base : Base) → AreRegisters c.args.wires.now.signals base c.as_slice.result.now c.args.registers.now
    → AddsWord base c.args.wires.now.signals c.variable_word.new.wires.signals c.in-Variable.ty out)
    (λ out. (base : Base) → AreSlots base c.args.wires.now.signals c.args.code.now c.args.registers.now
    → AddsWord base c.args.wires.now.signals c.variable_word.new.wires.signals c.in-Variable.ty out)
    (λ out t base slots. t base (subst (λ (z : List IntegerType). AreRegisters c.args.wires.now.signals base z c.args.registers.now) (sym c.as_slice.ensures)
    (registers_of base c.args.wires.now.signals c.args.code.now c.args.registers.now slots))) c.variable_word.ensures.wired)
