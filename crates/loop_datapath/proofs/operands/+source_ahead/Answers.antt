use Rattle.std.proofs.Common.{◌≡◌, ◌∙◌, suc, ◌-◌, Some, None, sym, ap, refl, to_z, of_z, arith}
use mir.Syntax.{w128}
use Rattle.std.proofs.lemmas.Int.{to_z-of_z}
use Rattle.std.specs.Option.{option_copied}
use Rattle.block_ir.specs.declared.operand.Source.TheVariants.{Constant, Variable, Value}
use Rattle.block_datapath.proofs.OperandWords.{fits_typed}
use Rattle.loop_datapath.specs.Ahead.{final_behind}
use Rattle.loop_datapath.proofs.LastFinals.{behind_some}
use Rattle.loop_datapath.proofs.AheadOperands.{constant_shown, value_shown, own_shown, left_source_shown}
use Rattle.loop_datapath.proofs.AheadWires.{constant_wired, value_wired, variable_wired, left_wired}
use Rattle.loop_datapath.proofs.operands.+source_ahead.Goals as goal

pub returns-in-Constant-clause-shows : goal.returns-in-Constant-clause-shows
returns-in-Constant-clause-shows t c =
    let n = c.in-Constant.number in
    let ty = c.in-Constant.ty in
    constant_shown c.args.registers.now c.args.times.now c.args.words.now c.args.at c.args.types.now c.args.turn.now c.constant_word.result c.args.wires.now.signals
    c.constant_word.new.self.signals c.args.depth c.args.source ty n
    (to_z w128 (of_z w128 n)) (λ t. to_z-of_z w128 n (fits_typed ty n t)) c.in-Constant.is c.constant_word.ensures.shows

pub returns-in-Constant-clause-wired : goal.returns-in-Constant-clause-wired
returns-in-Constant-clause-wired t c =
    constant_wired c.args.types.now c.args.registers.now c.args.words.now c.constant_word.result c.args.wires.now.signals c.constant_word.new.self.signals c.args.source
    (Constant c.in-Constant.ty c.in-Constant.number) c.in-Constant.is c.constant_word.ensures.wired

pub returns-in-Value-clause-shows : goal.returns-in-Value-clause-shows
returns-in-Value-clause-shows t c =
    value_shown c.args.registers.now c.args.times.now c.args.words.now c.args.at c.args.types.now c.args.turn.now c.value_ahead.result c.args.wires.now.signals
    c.value_ahead.new.wires.signals c.args.depth c.args.source c.in-Value.number c.in-Value.ty c.in-Value.is c.value_ahead.ensures.shows

pub returns-in-Value-clause-wired : goal.returns-in-Value-clause-wired
returns-in-Value-clause-wired t c =
    value_wired c.args.types.now c.args.registers.now c.args.words.now c.value_ahead.result c.args.wires.now.signals c.value_ahead.new.wires.signals c.args.source
    (Value c.in-Value.number c.in-Value.ty) c.in-Value.is c.value_ahead.ensures.wired

pub returns-in-None-clause-shows : goal.returns-in-None-clause-shows
returns-in-None-clause-shows t c =
    let none : final_behind c.args.turn.now.finals c.args.depth c.in-Variable.number ≡ None = sym c.final_behind.ensures ∙ ap option_copied c.in-None.is in
    own_shown c.args.registers.now c.args.times.now c.args.words.now c.args.at c.args.types.now c.args.turn.now c.variable_word.result c.args.wires.now.signals
    c.variable_word.new.wires.signals c.args.depth c.args.source c.in-Variable.number c.in-Variable.ty c.in-Variable.is none c.variable_word.ensures.shows

pub returns-in-None-clause-wired : goal.returns-in-None-clause-wired
returns-in-None-clause-wired t c =
    variable_wired c.args.types.now c.args.registers.now c.args.words.now c.variable_word.result c.args.wires.now.signals c.variable_word.new.wires.signals c.args.source
    (Variable c.in-Variable.number c.in-Variable.ty) c.in-Variable.is c.variable_word.ensures.wired

pub returns-in_ok-word-in-Some-clause-shows : goal.returns-in_ok-word-in-Some-clause-shows
returns-in_ok-word-in-Some-clause-shows t c =
    let f = c.in-Some.last.now in
    let found : final_behind c.args.turn.now.finals c.args.depth c.in-Variable.number ≡ Some f = sym c.final_behind.ensures ∙ ap option_copied c.in-Some.is in
    let some = behind_some c.args.turn.now.finals c.args.depth c.in-Variable.number f found in
    let less : suc (c.args.depth - 1) ≡ c.args.depth = omega (arith, some.0) in
    left_source_shown c.args.registers.now c.args.times.now c.args.words.now c.args.at c.args.types.now c.args.turn.now c.left_word.result c.args.wires.now.signals
    c.source_ahead.new.wires.signals c.left_word.new.wires.signals c.args.depth (c.args.depth - 1) c.args.source c.in-Variable.number c.in-Variable.ty f f.value.source
    c.in_ok-word-in-Some.word c.in-Variable.is found less refl c.in_ok-word-in-Some.ensures.shows c.left_word.ensures.shows

pub returns-in_ok-word-in-Some-clause-wired : goal.returns-in_ok-word-in-Some-clause-wired
returns-in_ok-word-in-Some-clause-wired t c =
    left_wired c.args.types.now c.args.registers.now c.args.words.now c.left_word.result c.args.wires.now.signals c.source_ahead.new.wires.signals c.left_word.new.wires.signals
    c.args.source (Variable c.in-Variable.number c.in-Variable.ty) c.in-Some.last.now c.in_ok-word-in-Some.word c.in-Variable.is c.in_ok-word-in-Some.ensures.wired c.left_word.ensures.wired
