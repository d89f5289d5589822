use Rattle.std.proofs.Common.{rules}
use Rattle.op_graph.proofs.Neighbours.{reduced_rows, same_solutions, places_within, few_rows}
use Rattle.op_graph.proofs.reduced.reduced_constraints.Goals as goal

pub returns-clause-rows : goal.returns-clause-rows
returns-clause-rows c = reduced_rows c.args.nodes.now c.put_ends.new.list.items (search (rules, c.in_ok-put_ends.ensures))

pub returns-clause-same : goal.returns-clause-same
returns-clause-same c = same_solutions c.args.nodes.now c.put_ends.new.list.items (search (rules, c.in_ok-put_ends.ensures))

pub returns-clause-places : goal.returns-clause-places
returns-clause-places c = places_within c.args.nodes.now c.requires c.put_ends.new.list.items (search (rules, c.in_ok-put_ends.ensures))

pub returns-clause-few : goal.returns-clause-few
returns-clause-few c = few_rows c.args.nodes.now c.put_ends.new.list.items (search (rules, c.in_ok-put_ends.ensures))

pub put_uses-requires : goal.put_uses-requires
put_uses-requires c = c.requires
