use Rattle.std.proofs.Common.{rules}
use Rattle.op_graph.proofs.TableRows.{is_table}
use Rattle.op_graph.proofs.OneByOne.{one_by_one, table_solved}
use Rattle.op_graph.proofs.table.constraints.Goals as goal

pub returns-clause-table : goal.returns-clause-table
returns-clause-table c = is_table c.args.nodes.now c.put_ends.new.list.items (search (rules, c.in_ok-put_ends.ensures))

pub returns-clause-one_by_one : goal.returns-clause-one_by_one
returns-clause-one_by_one c =
    table_solved c.args.nodes.now c.put_ends.new.list.items _ (is_table c.args.nodes.now c.put_ends.new.list.items (search (rules, c.in_ok-put_ends.ensures)))
    (one_by_one c.args.nodes.now c.requires)

pub put_uses-requires : goal.put_uses-requires
put_uses-requires c = c.requires
