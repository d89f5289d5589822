use Rattle.std.proofs.Common.{◌≡◌, Some, None, slice_get, subst}
use Rattle.std.specs.Prelude.{IfOk}
use Rattle.hls_ints.specs.Types.{IntegerType}
use Rattle.block_datapath.specs.Wired.{IsOperationWord}
use Rattle.block_datapath.proofs.ToldWords.{read_told, read_missing}
use Rattle.block_datapath.proofs.BlockWires.{missing_read}
use Rattle.block_datapath.proofs.told.told_value.Goals as goal

pub returns-in-Some-clause-shows : goal.returns-in-Some-clause-shows
returns-in-Some-clause-shows c =
    let listed : slice_get c.args.registers.now.spreads c.args.global ≡ Some c.in-Some.spread = cc in
    read_told c.args.registers.now c.spread_value.result c.args.wires.now.signals c.spread_value.new.wires.signals c.args.globals.now c.args.code.now c.args.values.now c.args.last
    c.args.global
    c.in-Some.spread c.global_type-ty.result c.args.index.now listed c.global_type-ty.ensures c.spread_value.ensures.shows

pub returns-in-Some-clause-wired : goal.returns-in-Some-clause-wired
returns-in-Some-clause-wired c =
    subst (λ (ty : IntegerType). IfOk c.spread_value.result
    (IsOperationWord c.args.wires.now.signals c.spread_value.new.wires.signals c.args.code.now c.args.registers.now c.args.values.now ty))
    c.global_type-ty.ensures c.spread_value.ensures.wired

pub returns-in-None-clause-shows : goal.returns-in-None-clause-shows
returns-in-None-clause-shows c =
    let none : slice_get c.args.registers.now.spreads c.args.global ≡ None = cc in
    read_missing c.args.registers.now c.constant_word.result c.args.wires.now.signals c.constant_word.new.self.signals c.args.globals.now c.args.code.now c.args.values.now
    c.args.last
    c.args.global c.global_type-ty.result _ c.args.index.now none c.constant_word.ensures.shows

pub returns-in-None-clause-wired : goal.returns-in-None-clause-wired
returns-in-None-clause-wired c =
    missing_read c.constant_word.result c.args.wires.now.signals c.constant_word.new.self.signals c.args.code.now c.args.registers.now c.args.values.now c.global_type-ty.result _
    c.constant_word.ensures.wired c.global_type-ty.ensures
