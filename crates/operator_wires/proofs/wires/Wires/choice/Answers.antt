use Rattle.operator_wires.proofs.BuiltWires.{choice_answer}
use Rattle.operator_wires.proofs.wires.Wires.choice.Goals as goal

pub returns-clause-wired : goal.returns-clause-wired
returns-clause-wired c = choice_answer c.wire.result c.args.self.now.signals c.wire.new.self.signals c.args.bits c.args.condition c.args.if_true c.args.if_false c.wire.ensures.wired
