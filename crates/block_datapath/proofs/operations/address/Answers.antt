use Rattle.std.proofs.Common.{◌<◌, ◌^◌, arith}
use Rattle.block_datapath.proofs.OperationWords.{address_kept, address_widened}
use Rattle.block_datapath.proofs.BlockWires.{address_own, address_resized}
use Rattle.block_datapath.proofs.operations.address.Goals as goal

pub returns-then-is_wide_enough-clause-shows : goal.returns-then-is_wide_enough-clause-shows
returns-then-is_wide_enough-clause-shows c = address_kept c.args.wires.now.signals c.args.index c.args.length (c.is_wide_enough.ensures.room c.if-is_wide_enough.true)
    (c.is_wide_enough.ensures.half c.if-is_wide_enough.true)

pub returns-else-is_wide_enough-clause-shows : goal.returns-else-is_wide_enough-clause-shows
returns-else-is_wide_enough-clause-shows c =
    let fits = c.ranges.length in
    let small : c.args.length < 2 ^ 64 = omega arith in
    address_widened c.resized.result c.args.wires.now.signals c.resized.new.self.signals c.args.index c.args.length small c.resized.ensures.shows

pub returns-then-is_wide_enough-clause-wired : goal.returns-then-is_wide_enough-clause-wired
returns-then-is_wide_enough-clause-wired c = address_own c.args.wires.now.signals c.args.index c.args.length (c.is_wide_enough.ensures.room c.if-is_wide_enough.true)

pub returns-else-is_wide_enough-clause-wired : goal.returns-else-is_wide_enough-clause-wired
returns-else-is_wide_enough-clause-wired c =
    let fits = c.ranges.length in
    let small : c.args.length < 2 ^ 64 = omega arith in
    address_resized c.resized.result c.args.wires.now.signals c.resized.new.self.signals c.args.index c.args.length small c.resized.ensures.wired
