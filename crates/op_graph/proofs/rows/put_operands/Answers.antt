use Rattle.std.proofs.Common.{inl, inr}
use Rattle.op_graph.proofs.rows.put_operands.Goals as goal

pub put_operand-requires-clause-operand : goal.put_operand-requires-clause-operand
put_operand-requires-clause-operand c = λ i e. c.requires.earlier c.args.j i c.requires.place (inl e)

pub put_operand-requires-2-clause-operand : goal.put_operand-requires-2-clause-operand
put_operand-requires-2-clause-operand c = λ i e. c.requires.earlier c.args.j i c.requires.place (inr e)

pub put_operand-requires-clause-earlier : goal.put_operand-requires-clause-earlier
put_operand-requires-clause-earlier c = c.requires.earlier

pub put_operand-requires-2-clause-earlier : goal.put_operand-requires-2-clause-earlier
put_operand-requires-2-clause-earlier c = c.requires.earlier
