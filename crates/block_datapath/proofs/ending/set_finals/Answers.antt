use Rattle.std.proofs.lemmas.Option.{slice_get-get_or}
use Rattle.block_datapath.proofs.BlockEnd.{sets_none, sets_more}
use Rattle.block_datapath.proofs.LinkWires.{sets_nothing, sets_one_more}
use Rattle.block_datapath.proofs.ending.set_finals.Goals as goal

pub loop-finish-preserved : goal.loop-finish-preserved
loop-finish-preserved c =
    let next = slice_get-get_or c.args.finishes.now c.loop-finish.finish-index _ c.loop-finish-test.true in (
      sets_more c.args.wires.now.signals c.loop-finish.wires.signals c.set_next.new.wires.signals c.args.last c.args.nexts.now c.loop-finish.nexts c.set_next.new.nexts
          c.args.finishes.now
          c.loop-finish.finish-index _ c.loop-finish.invariant.0 next c.in_ok-set_next.ensures.shows,
      sets_one_more c.args.wires.now.signals c.loop-finish.wires.signals c.set_next.new.wires.signals c.args.last c.args.nexts.now c.loop-finish.nexts c.set_next.new.nexts
          c.args.finishes.now
          c.loop-finish.finish-index _ c.loop-finish.invariant.1 next c.in_ok-set_next.ensures.wired,
    )

pub loop-finish-init : goal.loop-finish-init
loop-finish-init c = (
  sets_none c.args.wires.now.signals c.args.last c.args.nexts.now c.args.finishes.now,
  sets_nothing c.args.wires.now.signals c.args.last c.args.nexts.now c.args.finishes.now,
)
