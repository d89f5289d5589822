use Rattle.std.proofs.Common.{◌≡◌, ◌∙◌, slice_get, Some, None}
use Rattle.block_datapath.proofs.OperationWords.{array_read}
use Rattle.block_datapath.proofs.BlockWires.{no_element, element_read}
use Rattle.loop_datapath.proofs.operations.read_array.Goals as goal

pub returns-clause-shows : goal.returns-clause-shows
returns-clause-shows c =
    let listed : slice_get c.args.code.now.arrays c.args.array ≡ Some c.in-Some.own = cc in
    array_read c.args.wires.now.signals c.address.new.wires.signals c.wire.new.self.signals c.args.code.now c.args.array c.in_ok-address.address c.in_ok-place.place c.from.result
    c.args.index
    c.of_type.result c.in-Some.own listed c.in_ok-address.ensures.shows c.in_ok-place.ensures.shows
    (c.from.ensures ∙ c.bits.ensures.value) c.of_type.ensures.place c.of_type.ensures.width
    c.of_type.ensures.signed

pub returns-in_default-clause-wired : goal.returns-in_default-clause-wired
returns-in_default-clause-wired c =
    let none : slice_get c.args.code.now.arrays c.args.array ≡ None = cc in
    no_element c.constant_word.result c.args.wires.now.signals c.constant_word.new.self.signals c.args.code.now c.args.array c.args.index none c.constant_word.ensures.wired

pub returns-clause-wired : goal.returns-clause-wired
returns-clause-wired c =
    let listed : slice_get c.args.code.now.arrays c.args.array ≡ Some c.in-Some.own = cc in
    element_read c.args.wires.now.signals c.address.new.wires.signals c.wire.new.self.signals c.args.code.now c.args.array c.in_ok-address.address c.in_ok-place.place c.from.result
    c.args.index
    c.of_type.result c.in-Some.own listed c.in_ok-address.ensures.wired c.in_ok-place.ensures.wired
    (c.from.ensures ∙ c.bits.ensures.value) c.of_type.ensures.place c.of_type.ensures.width
    c.of_type.ensures.signed
