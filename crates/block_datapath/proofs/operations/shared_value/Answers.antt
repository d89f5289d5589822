use Rattle.std.proofs.Common.{◌≡◌, Some, None}
use Rattle.block_datapath.specs.Units.{shared_place}
use Rattle.block_datapath.proofs.OperationWords.{shared_given, on_unit}
use Rattle.block_datapath.proofs.BlockWires.{unit_wired}
use Rattle.block_datapath.proofs.SharedResults.{shared_at}
use Rattle.block_datapath.proofs.operations.shared_value.Goals as goal

pub returns-in-Some-clause-shows : goal.returns-in-Some-clause-shows
returns-in-Some-clause-shows c =
    let found : shared_place c.args.registers.now.units c.args.operator c.args.ty c.args.left.now c.args.right.now c.args.unit ≡ Some c.in-Some.place = cc in
    shared_given c.args.wires.now.signals c.args.code.now c.args.registers.now c.args.values.now c.args.unit c.args.last c.args.operator c.args.ty c.args.left.now c.args.right.now
    c.in-Some.place c.of_type.result found c.of_type.ensures.place c.of_type.ensures.width c.of_type.ensures.signed

pub returns-in-Some-clause-wired : goal.returns-in-Some-clause-wired
returns-in-Some-clause-wired c =
    let found : shared_place c.args.registers.now.units c.args.operator c.args.ty c.args.left.now c.args.right.now c.args.unit ≡ Some c.in-Some.place = cc in
    unit_wired c.args.wires.now.signals c.args.code.now.variables c.args.registers.now c.args.values.now c.args.operator c.args.ty c.args.unit c.in-Some.place c.of_type.result
    (shared_at c.args.registers.now.units c.args.operator c.args.ty c.args.left.now c.args.right.now c.args.unit c.in-Some.place found).1
    c.of_type.ensures.place c.of_type.ensures.width c.of_type.ensures.signed

pub returns-in-None-clause-shows : goal.returns-in-None-clause-shows
returns-in-None-clause-shows c =
    let none : shared_place c.args.registers.now.units c.args.operator c.args.ty c.args.left.now c.args.right.now c.args.unit ≡ None = cc in
    on_unit c.binary_value.result c.args.wires.now.signals c.binary_value.new.wires.signals c.args.code.now c.args.registers.now c.args.values.now c.args.unit c.args.last
    c.args.operator c.args.ty c.args.left.now c.args.right.now none c.binary_value.ensures.shows
