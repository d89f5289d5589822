use Rattle.operator_wires.proofs.BuiltWires.{wire_answer}
use Rattle.operator_wires.proofs.wires.Wires.wire.Goals as goal

pub returns-clause-wired : goal.returns-clause-wired
returns-clause-wired c = wire_answer c.push.result c.args.self.now.signals c.push.new.self.signals c.args.bits c.args.right c.push.ensures.laid
