use Rattle.std.proofs.Common.{rules}
use Rattle.loop_pipeline.proofs.LoopRows.{are_rows, same_solutions, places_within, fits, few}
use Rattle.loop_pipeline.proofs.table.loop_constraints.Goals as goal

pub returns-clause-rows : goal.returns-clause-rows
returns-clause-rows c =
    are_rows c.args.nodes.now c.args.comparison c.args.carried.now c.args.interval c.requires.comparison c.in_ok-list.list.items c.put_shared.new.list.items
    (search (rules, c.in_ok-put_shared.ensures)) c.in_ok-list.ensures.rows

pub returns-clause-same : goal.returns-clause-same
returns-clause-same c =
    same_solutions c.args.nodes.now c.args.comparison c.args.carried.now c.args.interval c.requires.comparison c.in_ok-list.list.items c.put_shared.new.list.items
    (search (rules, c.in_ok-put_shared.ensures)) c.in_ok-list.ensures.rows c.in_ok-list.ensures.same

pub returns-clause-places : goal.returns-clause-places
returns-clause-places c =
    places_within c.args.nodes.now c.args.comparison c.args.carried.now c.args.interval c.requires.comparison c.in_ok-list.list.items c.put_shared.new.list.items
    (search (rules, c.in_ok-put_shared.ensures)) c.in_ok-list.ensures.rows c.requires.earlier c.requires.carried

pub returns-clause-fits : goal.returns-clause-fits
returns-clause-fits c =
    fits c.args.nodes.now c.args.comparison c.args.carried.now c.args.interval c.requires.comparison c.in_ok-list.list.items c.put_shared.new.list.items
    (search (rules, c.in_ok-put_shared.ensures)) c.in_ok-list.ensures.rows c.in_ok-list.ensures.few c.requires.interval.0 c.requires.size c.requires.carried

pub returns-clause-few : goal.returns-clause-few
returns-clause-few c =
    few c.args.nodes.now c.args.comparison c.args.carried.now c.args.interval c.requires.comparison c.in_ok-list.list.items c.put_shared.new.list.items
    (search (rules, c.in_ok-put_shared.ensures)) c.in_ok-list.ensures.few c.requires.carried
