use Rattle.std.proofs.Common.{to_z, of_z, sym, subst}
use Rattle.std.proofs.lemmas.Int.{to_z-of_z}
use Rattle.std.specs.Prelude.{IfOk}
use mir.Syntax.{w128}
use Rattle.hls_ints.specs.Types.{wrapped}
use Rattle.block_ir.specs.declared.operand.Source.{Source}
use Rattle.block_ir.specs.declared.operand.Source.TheVariants.{Constant, Variable, Value}
use Rattle.operator_wires.specs.Words.{Holds}
use Rattle.operator_wires.specs.Added.{IsConstant}
use Rattle.operator_wires.proofs.MadeWords.{of_ok, of_two}
use Rattle.block_datapath.specs.Seen.{ShowsVariable}
use Rattle.block_datapath.specs.Wired.{IsVariableWord}
use Rattle.block_datapath.proofs.OperandWords.{fits_typed}
use Rattle.unit_datapath.specs.Words.{ShowsRegister, ShowsSource}
use Rattle.unit_datapath.proofs.HeldOperands.{constant_shown, variable_shown, value_shown}
use Rattle.unit_datapath.proofs.words.source_word.Goals as goal

pub returns-in-Constant : goal.returns-in-Constant
returns-in-Constant c =
    let n = c.in-Constant.number in
    let ty = c.in-Constant.ty in
    let a = c.args.wires.now.signals in
    let b = c.constant_word.new.self.signals in
    subst (λ (s : Source). IfOk c.constant_word.result (ShowsSource a b c.args.registers.now c.args.types.now c.args.plan.now s)) (sym c.in-Constant.is)
    (of_two c.constant_word.result (Holds a b ty (wrapped ty (to_z w128 (of_z w128 n)))) (IsConstant a b ty)
    (ShowsSource a b c.args.registers.now c.args.types.now c.args.plan.now (Constant ty n))
    (λ out t u. constant_shown a b c.args.registers.now c.args.types.now c.args.plan.now out ty n (to_z w128 (of_z w128 n)) (λ h. to_z-of_z w128 n (fits_typed ty n h)) t u)
    c.constant_word.ensures.shows c.constant_word.ensures.wired)

pub returns-in-Variable : goal.returns-in-Variable
returns-in-Variable c =
    let x = c.in-Variable.number in
    let ty = c.in-Variable.ty in
    let a = c.args.wires.now.signals in
    let b = c.variable_word.new.wires.signals in
    subst (λ (s : Source). IfOk c.variable_word.result (ShowsSource a b c.args.registers.now c.args.types.now c.args.plan.now s)) (sym c.in-Variable.is)
    (of_two c.variable_word.result (ShowsVariable a b c.args.registers.now c.args.types.now x ty) (IsVariableWord a b c.args.types.now c.args.registers.now ty)
    (ShowsSource a b c.args.registers.now c.args.types.now c.args.plan.now (Variable x ty))
    (λ out t u. variable_shown a b c.args.registers.now c.args.types.now c.args.plan.now out x ty t u)
    c.variable_word.ensures.shows c.variable_word.ensures.wired)

pub returns-in-Value : goal.returns-in-Value
returns-in-Value c =
    let k = c.in-Value.number in
    let ty = c.in-Value.ty in
    let a = c.args.wires.now.signals in
    let b = c.register_word.new.wires.signals in
    subst (λ (s : Source). IfOk c.register_word.result (ShowsSource a b c.args.registers.now c.args.types.now c.args.plan.now s)) (sym c.in-Value.is)
    (of_ok c.register_word.result (ShowsRegister a b c.args.registers.now c.register_of.result ty)
    (ShowsSource a b c.args.registers.now c.args.types.now c.args.plan.now (Value k ty))
    (λ out t. value_shown a b c.args.registers.now c.args.types.now c.args.plan.now out k c.register_of.result ty c.register_of.ensures t)
    c.register_word.ensures)
