use Rattle.op_graph.proofs.rows.put_operand.Goals as goal

pub put_use-requires-clause-earlier : goal.put_use-requires-clause-earlier
put_use-requires-clause-earlier c = c.requires.earlier

pub put_use-requires-clause-operand : goal.put_use-requires-clause-operand
put_use-requires-clause-operand c = c.requires.operand c.in-Some.i c.in-Some.is
