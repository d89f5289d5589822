use Rattle.std.proofs.Common.{refl, arith}
use Rattle.std.proofs.lemmas.List.{length-take-le}
use Rattle.block_datapath.proofs.OperationValues.{item_is}
use Rattle.thread_layout.proofs.ModuleMemories.{memories_more}
use Rattle.thread_layout.proofs.layout.memories.Goals as goal

pub loop-number-preserved : goal.loop-number-preserved
loop-number-preserved c =
    let here = item_is c.args.arrays.now c.args.arrays.now c.loop-number.number c.index-arrays-number.result c.loop-number-test.true c.index-arrays-number.is refl in
    memories_more c.args.arrays.now c.loop-number.number _ c.loop-number.memories c.push.new.self c.in_ok-memory.memory c.loop-number.invariant here
    (length-take-le c.loop-number.number c.args.arrays.now (omega arith)) c.in_ok-memory.ensures c.in_ok-push.ensures.ok
