use Rattle.std.proofs.lemmas.List.Elements.{Contains-get_or}
use Rattle.loop_pipeline.proofs.RowLists.{one_step}
use Rattle.loop_pipeline.proofs.LoopRows.{carried_more}
use Rattle.loop_pipeline.proofs.table.put_carried.Goals as goal

pub put_one_carried-requires-clause-from : goal.put_one_carried-requires-clause-from
put_one_carried-requires-clause-from c =
    (c.requires.carried.each _ (Contains-get_or c.args.carried.now c.loop-use_.use_-index (record { from = 0; to = 0; turns = 0 }) c.loop-use_-test.true)).from

pub put_one_carried-requires-clause-turns : goal.put_one_carried-requires-clause-turns
put_one_carried-requires-clause-turns c =
    (c.requires.carried.each _ (Contains-get_or c.args.carried.now c.loop-use_.use_-index (record { from = 0; to = 0; turns = 0 }) c.loop-use_-test.true)).turns.1

pub loop-use_-preserved : goal.loop-use_-preserved
loop-use_-preserved c =
    rw (carried_more c.args.nodes.now c.args.interval c.args.carried.now c.loop-use_.use_-index (record { from = 0; to = 0; turns = 0 }) c.loop-use_-test.true)
    (one_step _ _ _ _ _ c.loop-use_.invariant c.in_ok-put_one_carried.ensures)
